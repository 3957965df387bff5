-- The verdict on a call, by its sizes and tables first, then by its items. Assumes nothing.
use mathlib.Core.Path.{◌≡◌, refl, ◌∙◌}
use mathlib.Core.Bool.{Bool, true, false, ◌||◌}
use mathlib.Core.List.{List, ◌++◌, append_assoc}
use Prim.Native.Nat.{ℕ, ◌*◌, ◌-◌, ◌≤◌, ◌<◌, ◌^◌}
use native.Mathlib.Omega.{arith}
use lib.Dec.{ltb}
use borrow.Author.Tests.{ltb-false}
use Rattle.bounds.specs.Bounds.{most_running, offices, answer_numbers}
use Rattle.network.specs.Network.{Network, arcs, commodities}
use Rattle.network.specs.Refusal.{refusal_code, host_number, Verdict, Accepted, Refused}
use Rattle.network.specs.Resources.{resources}
use Rattle.network.specs.Sound.{Within, Counts}
use Rattle.network.specs.Verdict.{Condition, verdict, outside, size_conditions, item_conditions, verdict_on}
use Rattle.network.specs.declared.Refusal.{Refusal}
use Rattle.network.specs.declared.Refusal.TheVariants.{Office}
use Rattle.network.proofs.Bounds.{within}
use Rattle.network.proofs.Decided.{Quiet, accepted-quiet, quiet-accepted, refusal-has}
use Rattle.network.proofs.Each.{Each, none, more, each_append, each_left, each_right}
use Rattle.network.proofs.First.{decides, first-refuses, first-accepts}
use Rattle.network.proofs.HostNumber.{verdict-fits, items-fit}
use Rattle.network.proofs.Or.{or-false-left, or-false-right}
use Rattle.network.proofs.Sizes.{sizes-kept}
use Rattle.numbers.specs.Numbers.{count, items}
use Rattle.packed.specs.declared.Shape.{Shape}
use Rattle.numbers.proofs.Columns.{length-column}
use Rattle.call.specs.Deliver.{slices, Room, Open}
use Rattle.decode.specs.Calls.{Shaped}
use Rattle.decode.specs.Decode.{network_in}
use Rattle.call.specs.Host.{Slices, count_of, short, office_conditions, host_conditions, verdict_in}
use Rattle.call.specs.Serve.{call_conditions}
use Rattle.call.proofs.Offices.{own, own-complete, own-count}

-- Nothing is short: each table has its room, and the call lacks none of its own.
pub room : (lacking : Bool) (k m r : ℕ) (s : Slices) → short lacking k m r s ≡ false →
    Room k m r s.flow s.lengths × (answer_numbers ≤ count s.answer) × (offices ≤ count s.counts) × (lacking ≡ false)
unfolding short
room lacking k m r s h =
    let four = or-false-right lacking _ h in
    let three = or-false-left _ (ltb (count s.counts) offices) four in
    let two = or-false-left _ (ltb (count s.answer) answer_numbers) three in (
      record {
        for-flow = ltb-false _ _ (or-false-left _ (ltb (count s.lengths) r) two);
        for-lengths = ltb-false _ _ (or-false-right (ltb (count s.flow) (k * m)) _ two);
      },
      ltb-false _ _ (or-false-right (ltb (count s.flow) (k * m) || ltb (count s.lengths) r) _ three),
      ltb-false _ _ (or-false-right (ltb (count s.flow) (k * m) || ltb (count s.lengths) r || ltb (count s.answer) answer_numbers) _ four),
      or-false-left lacking _ h,
    )

-- 16 comes before 11: what is no office has no count.
pub no-office : (office : ℕ) (counts : List ℕ) → outside 1 offices office ≡ true → Refused Office ≡ verdict (office_conditions office counts)
unfolding office_conditions
no-office office counts h = decides _ refl h

passed : (lacking : Bool) (k m r office : ℕ) (s : Slices) → Quiet (host_conditions lacking k m r office s) →
    (short lacking k m r s ≡ false) × (outside 1 offices office ≡ false) × (ltb most_running (count_of office s.counts) ≡ false)
unfolding host_conditions office_conditions
passed lacking k m r office s (more a (more b (more c none))) = (a, b, c)

-- Neither 5, 16 nor 11: the office's count is in the table and not full, and lent by itself it is open.
module _ (lacking : Bool) (k m r office : ℕ) (s : Slices) (h : verdict (host_conditions lacking k m r office s) ≡ Accepted) where
  none-holds : (short lacking k m r s ≡ false) × (outside 1 offices office ≡ false) × (ltb most_running (count_of office s.counts) ≡ false)
  none-holds = passed lacking k m r office s (accepted-quiet _ h)

  pub an-office : Within 1 offices office
  an-office = within 1 offices office none-holds.1

  -- nor does the call lack a table of its own
  pub lacks-none : lacking ≡ false
  lacks-none = (room lacking k m r s none-holds.0).3

  pub has-counts : offices ≤ count s.counts
  has-counts = (room lacking k m r s none-holds.0).2

  pub has-count : office - 1 < count s.counts
  has-count = omega (arith, has-counts, an-office.least, an-office.most)

  pub not_full : count_of office s.counts ≤ most_running
  not_full = ltb-false _ _ none-holds.2

  pub open-for : Open k m r (slices s.flow s.lengths s.answer (own office s.counts has-count))
  open-for =
      let e = room lacking k m r s none-holds.0 in
      record {
        for-tables = e.0;
        for-answer = e.1;
        for-counts = own-complete office s.counts has-count;
        full = omega (arith, own-count office s.counts has-count, not_full);
      }

-- The refusals before an item is read have no place.
placeless : (lacking : Bool) (n m r k q office : ℕ) (s : Slices) → Each (λ r. r.holds ≡ true → (refusal_code r.refusal).place ≤ 65536) (call_conditions lacking n m r k q office s)
unfolding size_conditions host_conditions office_conditions
placeless lacking n m r k q office s =
    each_append {xs = size_conditions n m r k q} {ys = host_conditions lacking k m r office s}
    (more (λ t. omega arith) (more (λ t. omega arith) (more (λ t. omega arith) (more (λ t. omega arith) (more (λ t. omega arith) none)))))
    (more (λ t. omega arith) (more (λ t. omega arith) (more (λ t. omega arith) none)))

pub call_fits : (lacking : Bool) (n m r k q office : ℕ) (s : Slices) → host_number (verdict (call_conditions lacking n m r k q office s)) < 2 ^ 64
call_fits lacking n m r k q office s =
    verdict-fits (verdict (call_conditions lacking n m r k q office s)) (λ w h. refusal-has (λ w. (refusal_code w).place ≤ 65536) w (placeless lacking n m r k q office s) h)

-- None of them: counts are within their bounds, and the tables are as 5, 16 and 11 ask.
module _ (lacking : Bool) (n m r k q office : ℕ) (s : Slices) (h : verdict (call_conditions lacking n m r k q office s) ≡ Accepted) where
  quiet : Quiet (call_conditions lacking n m r k q office s)
  quiet = accepted-quiet (call_conditions lacking n m r k q office s) h

  pub call-counts : Counts n m r k q
  call-counts = sizes-kept n m r k q (each_left (size_conditions n m r k q) (host_conditions lacking k m r office s) quiet)

  pub call-open : verdict (host_conditions lacking k m r office s) ≡ Accepted
  call-open = quiet-accepted (each_right (size_conditions n m r k q) quiet)

-- What a call returns takes eight bytes, whatever is refused first.
first_fits :
    (cs ds : List Condition) (v : Verdict) → verdict cs ≡ v → host_number v < 2 ^ 64 → (v ≡ Accepted → host_number (verdict ds) < 2 ^ 64) → host_number (verdict (cs ++ ds)) < 2 ^ 64
first_fits cs ds Accepted e b later = rw (first-accepts cs ds e) (later refl)
first_fits cs ds (Refused w) e b later = rw (first-refuses cs ds w e) b

pub result_fits : (lacking : Bool) (net : Network) (q office : ℕ) (s : Slices) → host_number (verdict_in lacking net q office s) < 2 ^ 64
unfolding verdict_on
result_fits lacking net q office s =
    let k = call_conditions lacking net.nodes (arcs net) (resources net) (commodities net) q office s in
    rw (← append_assoc (size_conditions net.nodes (arcs net) (resources net) (commodities net) q) (host_conditions lacking (commodities net) (arcs net) (resources net) office s) (item_conditions net))
    (first_fits k (item_conditions net) (verdict k) refl (call_fits lacking net.nodes (arcs net) (resources net) (commodities net) q office s)
    (λ a. items-fit net q (call-counts lacking net.nodes (arcs net) (resources net) (commodities net) q office s a)))

-- By the shape of the bytes.
module _ {n : ℕ} (lacking : Bool) (q office : ℕ) {belts pairs limits : List ℕ} (t : Slices) {s : Shape} (h : Shaped n belts pairs limits s) where
  abbrev net : Network
  net = network_in n belts pairs limits

  abbrev conditions : List Condition
  conditions = call_conditions lacking s.nodes s.arcs s.resources s.commodities q office t

  by-items : verdict_in lacking net q office t ≡ verdict (conditions ++ item_conditions net)
  unfolding verdict_on network_in
  by-items =
      rw (h.nodes, h.arcs, h.commodities, h.counted, length-column belts 4 0 (items 4 belts), length-column pairs 2 0 (items 2 pairs), append_assoc) refl

  pub refused-in : (w : Refusal) → verdict conditions ≡ Refused w → verdict_in lacking net q office t ≡ Refused w
  refused-in w e = by-items ∙ first-refuses conditions _ w e

  pub accepted-in : verdict conditions ≡ Accepted → verdict_in lacking net q office t ≡ verdict (item_conditions net)
  accepted-in e = by-items ∙ first-accepts conditions _ e
