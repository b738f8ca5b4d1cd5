use Rattle.rt_script.proofs.FilesStay.{site_ends, site_stops}
use Rattle.rt_script.proofs.scripts.run_bounded.Goals as goal

pub returns-clause-ends : goal.returns-clause-ends
returns-clause-ends g c = site_ends _ _ _ _ _ _ _ _ _ _ c.new-session.ensures c.into_site.ensures c.run_lines-site.ensures.ends

pub returns-clause-last : goal.returns-clause-last
returns-clause-last g c = λ none.
    site_stops g.R.Source.stream _ _ _ _ _ _ _ _ _ _ c.new-session.ensures c.into_site.ensures c.run_lines-site.ensures.ends (c.run_lines-site.ensures.last none)
