use Rattle.rt_script.proofs.Untold.{is_done, is_untold}
use Rattle.rt_script.proofs.site_lines.let_go.Goals as goal

pub returns-clause-done : goal.returns-clause-done
returns-clause-done c = is_done c.args.path.now c.args.site.now c.destroy-reply.result c.destroy-reply.new.self c.destroy-reply.ensures

pub returns-clause-untold : goal.returns-clause-untold
returns-clause-untold c =
    is_untold c.args.path.now c.args.site.now c.destroy-reply.result c.destroy-reply.new.self c.destroy-reply.ensures (c.calls.ensures.destroyed c.args.path.now c.args.site.now c.destroy-reply.new.self)
    c.log.ensures.cells c.log-2.ensures.cells
