-- The cleared tables are the definition's start, what the first choice tells, and the two outcomes. Assumes nothing.
use mathlib.Core.Path.{◌≡◌, refl, sym, ap, ◌∙◌}
use mathlib.Core.Option.{none, some}
use mathlib.Core.List.{List}
use Prim.Native.Nat.{ℕ, ◌*◌}
use native.Mathlib.Omega.{arith}
use lib.IntN.{ℤ, pos}
use lib.ListN.{length, get_or, take, replicate}
use Rattle.std.specs.Prelude.{Option, Some, None, true, false, is_some}
use Rattle.network.specs.Network.{Network, arcs, commodities}
use Rattle.network.specs.Resources.{resources, resource_capacities}
use Rattle.network.specs.Sound.{Sound}
use Rattle.network.proofs.Resources.{resource-capacities-length}
use Rattle.network.proofs.Sounds.{resources-within, resource-capacity-within}
use Rattle.method.specs.Answer.{outcome, outcome_of, unjoined}
use Rattle.method.specs.Choice.{Choice, choice_of, choice}
use Rattle.method.specs.Iteration.{initial, weight}
use Rattle.method.specs.Run.{run}
use Rattle.method.proofs.Ends.{final-sizes}
use Rattle.method.proofs.Guaranteed.{guarantee}
use Rattle.method.specs.declared.Selected.{Selected}
use Rattle.choice.specs.Chose.{Chose}
use Rattle.tables.specs.Calls.{Ranking}
use Rattle.tables.specs.Tables.{weight_of}
use Rattle.lengths.specs.Results.{first_lengths}
use Rattle.step.specs.declared.Progress.{Progress}
use Rattle.step.specs.Progress.{state_of, begun}
use Rattle.run.specs.Runs.{Chooses}
use Rattle.solver.specs.Solved.{Solved, answer_of, no_answer}

-- The tables once they are cleared are those of the definition's start.
pub initial-is :
    (net : Network) {caps L Y K : List ℕ} {F : List ℤ} {m y k f : ℕ} → caps ≡ resource_capacities net → L ≡ first_lengths caps → Y ≡ replicate y 0 →
    K ≡ replicate k 0 → F ≡ replicate f (pos 0) → m ≡ resources net → y ≡ m → k ≡ m → f ≡ commodities net * arcs net →
    state_of L F Y K begun ≡ initial net
unfolding initial
initial-is net ec started unloaded nothing empty em ey ek ef = rw (started, unloaded, nothing, empty, ey, ek, ef, em, ec) refl

-- D of them is the definition's.
pub weight_is : (net : Network) {caps : List ℕ} → caps ≡ resource_capacities net → (L : List ℕ) {d : ℕ} → d ≡ weight_of caps L → d ≡ weight net L
unfolding weight
weight_is net ec L h = rw (ec, resource-capacities-length net) at h

-- The first choice is none, or there is one.
pub chose-none : (net : Network) (l path : List ℕ) (r : Option Selected) → Chose net l r path → is_some r ≡ false → choice net l ≡ none
chose-none net l path None k e = k
chose-none net l path (Some r) k e = cc

pub chose-some : (net : Network) (l path : List ℕ) (r : Option Selected) → Chose net l r path → is_some r ≡ true → (c : Choice) × (choice net l ≡ some c)
chose-some net l path None k e = cc
chose-some net l path (Some r) k e = (choice_of r.commodity (take r.arcs path), k.chosen)

pub outcome-some : (net : Network) (q : ℕ) (c : Choice) → choice net (initial net).lengths ≡ some c → outcome net q ≡ outcome_of net (run net q)
unfolding outcome
outcome-some net q c h = rw (h, outcome) refl

pub outcome-none : (net : Network) (q : ℕ) → choice net (initial net).lengths ≡ none → outcome net q ≡ unjoined net
unfolding outcome
outcome-none net q h = rw (h, outcome) refl

-- No commodity is joined: the tables of the start are the outcome's.
pub solved-none :
    (net : Network) (q : ℕ) → Sound net q → (flow : List ℤ) (kept : List ℕ) → choice net (initial net).lengths ≡ none → flow ≡ (initial net).flow →
    kept ≡ (initial net).best_lengths → Solved net q no_answer flow kept
unfolding unjoined initial
solved-none net q sound flow kept h f k =
    let e = outcome-none net q h in
    record {
      answers = sym (ap (λ o. o.answer) e);
      flows = f ∙ sym (ap (λ o. o.flow) e);
      lengths = k ∙ sym (ap (λ o. o.lengths) e);
      guarantee = guarantee net q sound;
    }

-- The run's tables are the outcome's.
pub solved-some :
    (net : Network) (q : ℕ) → Sound net q → (c : Choice) → choice net (initial net).lengths ≡ some c → (flow : List ℤ) (kept loads lengths : List ℕ) (p : Progress) →
    state_of lengths flow loads kept p ≡ run net q → length loads ≡ resources net →
    Solved net q (answer_of (resource_capacities net) loads p) flow kept
unfolding outcome_of
solved-some net q sound c h flow kept loads lengths p r size =
    let e : outcome net q ≡ outcome_of net (state_of lengths flow loads kept p) = outcome-some net q c h ∙ ap (outcome_of net) (sym r) in
    record {
      answers = rw size (sym (ap (λ o. o.answer) e));
      flows = sym (ap (λ o. o.flow) e);
      lengths = sym (ap (λ o. o.lengths) e);
      guarantee = guarantee net q sound;
    }

-- Loads and capacities of the end, as the answer compares them.
pub ranking :
    (net : Network) (q : ℕ) → Sound net q → Chooses net → (loads : List ℕ) → loads ≡ (run net q).loads → length loads ≡ resources net →
    Ranking loads (resource_capacities net)
ranking net q sound chooses loads r size =
    let z = final-sizes net q sound chooses in
    record {
      some = omega (arith, (resources-within net q sound).least);
      same = size ∙ sym (resource-capacities-length net);
      amounts = λ e l. omega (arith, ap (λ t. get_or t e 0) r, z.load-high e (omega arith));
      sizes = λ e l. (resource-capacity-within net q sound e (omega (arith, resource-capacities-length net))).most;
    }
