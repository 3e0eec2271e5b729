use Rattle.std.proofs.Common.{◌≡◌, ℕ, List, ◌++◌, vec_items}
use Rattle.std.specs.Str.Iter.{split_terminator_pattern, split_terminator_parts, split_has_more, split_text}
use Rattle.scripts.specs.Scripts.{Ask}
use Rattle.scripts.specs.Texts.{lines_of}
use Rattle.scripts.proofs.Texts.{left}
use Rattle.scripts.proofs.text.script.Given as goal

-- the lines read so far say the requests so far, and the iterator has those that follow
abbrev pub invariant-loop-line : goal.invariant-loop-line
invariant-loop-line l =
    let lines = split_terminator_parts l.line-iterator in
    (split_terminator_pattern l.line-iterator ≡ 10)
    × ((read : List (List ℕ)) × (lines_of l.text ≡ read ++ left (split_has_more lines) (split_text lines)) × Ask read (vec_items l.requests))
