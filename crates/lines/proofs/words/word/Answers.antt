-- `lines::words::word` meets its contract: the parts with a byte are the words.
-- Assumes nothing.
use mathlib.Core.Path.{◌≡◌, refl}
use mathlib.Core.List.{List}
use Prim.Native.Nat.{ℕ}
use denote.Ref.{Bor}
use Rattle.std.proofs.Common.{rules, Option, Some, None, unwrap_or}
use Rattle.std.specs.Option.{option_map}
use Rattle.std.proofs.lemmas.Iterator.Consumers.{nth_from_yields_List}
use Rattle.std.proofs.lemmas.Option.{unwrap_or-slice_get}
use Rattle.lines.proofs.Split.{YieldsList-from_words}
use Rattle.lines.proofs.words.word.Goals as goal

behind : (o : Option (Bor (List ℕ))) (d : Bor (List ℕ)) → (unwrap_or o d).now ≡ unwrap_or (option_map (λ w. w.now) o) d.now
behind None d = refl
behind (Some w) d = refl

pub returns : goal.returns
returns c =
    let h = nth_from_yields_List _ _ _ c.nth.ensures.ran
    (YieldsList-from_words _ _ _ c.split.ensures.rest c.split.ensures.done c.split.ensures.closure (λ x b q k. search rules)
    c.filter.ensures.source c.filter.ensures.closure (λ x b q k. search rules)) in
    rw (c.unwrap_or.ensures, behind, h, unwrap_or-slice_get)
