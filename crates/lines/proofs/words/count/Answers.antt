-- `lines::words::count` meets its contract: the parts with a byte are the words.
-- Assumes nothing.
use Rattle.std.proofs.Common.{rules}
use Rattle.std.proofs.lemmas.Iterator.Consumers.{count_from_yields_List}
use Rattle.lines.proofs.Split.{YieldsList-from_words}
use Rattle.lines.proofs.words.count.Goals as goal

pub returns : goal.returns
returns c =
    count_from_yields_List _ _ c.count.ensures.ran
    (YieldsList-from_words _ _ _ c.split.ensures.rest c.split.ensures.done c.split.ensures.closure (λ x b q k. search rules)
    c.filter.ensures.source c.filter.ensures.closure (λ x b q k. search rules))
