use Rattle.std.proofs.Common.{get_or, arith, rules}
use Rattle.sheets.specs.Writers.{Writes}
use Rattle.sheets.proofs.Writers.{writes_on, writes_as}
use Rattle.bench.specs.Records.{word_of}
use Rattle.bench.proofs.Bytes.{word_more}
use Rattle.bench.proofs.records.put_facts.Goals as goal

pub loop-word-preserved : goal.loop-word-preserved
loop-word-preserved c =
    let ws = c.words-word-items.result in
    let i = c.loop-word.word-index in
    let one : Writes c.loop-word.writer (word_of (get_or ws i 0)) c.put_bytes.new.self = search rules in
    let s = c.loop-word.invariant in
    record {
      whole = s.whole;
      place = omega (arith, s.place, one.wrote.place);
      writes = writes_as (word_more ws i (omega arith)) (writes_on s.writes one);
    }
