-- `site::solve` meets its contract, for every input. Assumes nothing.
use mathlib.Core.Path.{◌≡◌, sym, ap, ◌∙◌}
use Rattle.network.specs.Refusal.{host_number, Accepted}
use Rattle.network.specs.Verdict.{verdict}
use Rattle.network.proofs.First.{handed}
use Rattle.call.specs.Deliver.{slices}
use Rattle.call.specs.Host.{Slices}
use Rattle.site.specs.Site.{Site, list_conditions}
use Rattle.site.specs.Turns.{site}
use Rattle.site.proofs.Listed.{listed}
use Rattle.site.proofs.Sites.{site-refused, site-accepted}
use Rattle.site.proofs.solve.Goals as goal
use Rattle.site.proofs.solve.Goals.{In_ok-check_list, Start}

-- what is read, and the slices at entry
abbrev what : Start → Site
what s = site s.args.office s.args.floors.now s.args.floor.now.belts.now s.args.floor.now.pairs.now s.args.floor.now.limits.now

abbrev lent : Start → Slices
lent s = slices s.args.flow.now s.args.lengths.now s.args.answers.now s.args.counts.now

passed : (c : In_ok-check_list) → verdict (list_conditions c.args.floors.now c.args.answers.now) ≡ Accepted
passed c = sym c.check_list.ensures ∙ c.in_ok-check_list.was

pub returns-in_err-check_list : goal.returns-in_err-check_list
returns-in_err-check_list c =
    site-refused (what (goal.at.returns-in_err-check_list c).Start) (lent (goal.at.returns-in_err-check_list c).Start) _ _ (sym c.check_list.ensures ∙ c.in_err-check_list.was)
    (ap host_number (handed c.in_err-check_list.was c.from_residual.ensures.1 ∙ c.check_list.ensures))

pub solve_floors-requires : goal.solve_floors-requires
solve_floors-requires c = listed _ _ (passed (goal.at.solve_floors-requires c).In_ok-check_list)

pub returns : goal.returns
returns c =
    site-accepted (what (goal.at.returns c).Start) (lent (goal.at.returns c).Start) _ (passed (goal.at.returns c).In_ok-check_list) c.solve_floors.ensures
