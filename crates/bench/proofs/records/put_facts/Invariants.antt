use Rattle.std.proofs.Common.{◌≡◌, ◌+◌, ◌*◌, length, take}
use Rattle.sheets.specs.Writers.{Writes}
use Rattle.bench.specs.Records.{word_bytes}
use Rattle.bench.proofs.records.put_facts.Given as goal

abbrev pub invariant-loop-word : goal.invariant-loop-word
invariant-loop-word l =
    record {
      whole : length l.word-items ≡ 16;
      place : l.writer.at ≡ l.initial.writer.at + 8 * l.word-index;
      writes : Writes l.initial.writer (word_bytes (take l.word-index l.word-items)) l.writer;
    }
