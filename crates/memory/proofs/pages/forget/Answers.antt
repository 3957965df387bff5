-- `memory::pages::forget` meets its contract. Assumes nothing.
use mathlib.Core.Path.{◌≡◌, sym, refl, ap, ◌∙◌}
use native.Mathlib.Omega.{arith}
use lib.ListN.{length, take, replicate}
use Rattle.std.proofs.lemmas.List.{length-take-le}
use Rattle.memory.specs.Memory.{pages_from}
use Rattle.memory.proofs.Forgets.{forgotten-all}
use Rattle.memory.proofs.pages.forget.Goals as goal

pub slice_bounds-fill-end-2 : goal.slice_bounds-fill-end-2
slice_bounds-fill-end-2 c = sym (length-take-le _ c.args.memory.now (omega (arith, c.requires)))

pub returns : goal.returns
returns c =
    let size : length (take pages_from c.args.memory.now) ≡ pages_from = length-take-le pages_from c.args.memory.now (omega (arith, c.requires)) in
    let zeros : c.fill.new.self ≡ replicate pages_from 0 = c.fill.ensures.after (λ y e. e) ∙ ap (λ k. replicate k 0) size in
    forgotten-all (rw zeros refl) c.clear_pages.ensures
