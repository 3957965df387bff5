-- Slices with the same bytes are the same. Assumes nothing.
use mathlib.Core.Path.{◌≡◌, ap₂, ◌∙◌}
use mathlib.Core.List.{List}
use Prim.Native.Nat.{ℕ}
use Rattle.call.specs.Deliver.{slices}

pub same-slices :
    {flow flow' lengths lengths' answer answer' counts counts' : List ℕ} → flow ≡ flow' → lengths ≡ lengths' → answer ≡ answer' → counts ≡ counts' →
    slices flow lengths answer counts ≡ slices flow' lengths' answer' counts'
same-slices {flow} {flow'} {lengths} {lengths'} {answer} {answer'} {counts} {counts'} f l a c =
    ap₂ (λ x y. slices x y answer counts) f l ∙ ap₂ (slices flow' lengths') a c
