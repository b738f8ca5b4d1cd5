use Rattle.rt_script.proofs.site_run.run_site.Goals as goal

pub returns-clause-runs : goal.returns-clause-runs
returns-clause-runs g c = (c.run-site.ensures.ends, c.log_of-log.ensures)

pub returns-clause-last : goal.returns-clause-last
returns-clause-last g c = c.run-site.ensures.last

pub returns-clause-unseen : goal.returns-clause-unseen
returns-clause-unseen g c = c.run-site.ensures.unseen
