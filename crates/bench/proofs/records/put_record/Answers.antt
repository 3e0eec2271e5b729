use Rattle.sheets.proofs.Writers.{writes_on}
use Rattle.bench.proofs.records.put_record.Goals as goal

pub returns-clause-bytes : goal.returns-clause-bytes
returns-clause-bytes g c =
    record {
      words = c.facts_on.result.words;
      facts = c.facts_on.ensures;
      writes = writes_on c.put_reply.ensures c.put_facts.ensures.bytes;
    }
