-- `site::list::check_list` meets its contract: 13 before 5. Assumes nothing.
use borrow.Author.Tests.{lt-ltb, le-ltb}
use mathlib.Core.Path.{◌≡◌, ap, ap₂, ◌∙◌}
use Prim.Native.Nat.{◌*◌}
use native.Mathlib.Omega.{arith}
use lib.Dec.{ltb}
use Rattle.bounds.specs.Sites.{most_networks, floor_numbers}
use Rattle.network.specs.Verdict.{outside}
use Rattle.network.proofs.First.{decides, passes, none_left}
use Rattle.numbers.specs.Numbers.{items}
use Rattle.site.specs.Site.{list_conditions}
use Rattle.site.proofs.list.check_list.Goals as goal
use Rattle.site.proofs.list.check_list.Goals.{After-count, After-outside}

-- the tests, as the code and as the contract say them
listed : (c : After-outside) → c.outside.result ≡ outside 1 most_networks (items floor_numbers c.args.floors.now)
listed c = c.outside.ensures ∙ ap (outside 1 most_networks) c.items-k.ensures

needed : (c : After-count) → 8 * c.items-k.result ≡ 8 * items floor_numbers c.args.floors.now
needed c = ap (λ k. 8 * k) c.items-k.ensures

pub returns-then-outside : goal.returns-then-outside
unfolding list_conditions
returns-then-outside c = decides _ (listed (goal.at.returns-then-outside c).After-outside) c.if-outside.true

pub returns-then-count-k : goal.returns-then-count-k
unfolding list_conditions
returns-then-count-k c =
    passes _ _ (listed (goal.at.returns-then-count-k c).After-outside) c.if-outside.false (decides _ (ap₂ ltb c.count.ensures (needed (goal.at.returns-then-count-k c).After-count)) (lt-ltb _ _ c.if-count-k.true))

pub returns : goal.returns
unfolding list_conditions
returns c =
    passes _ _ (listed (goal.at.returns c).After-outside) c.if-outside.false (passes _ _ (ap₂ ltb c.count.ensures (needed (goal.at.returns c).After-count)) (le-ltb _ _ c.if-count-k.false) none_left)

pub overflow_mul-k : goal.overflow_mul-k
overflow_mul-k c = omega (arith, c.items-k.ensures)
