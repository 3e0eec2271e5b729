use Rattle.std.proofs.Common.{sym, ◌∙◌}
use Rattle.racks.proofs.Racks.{sizes}
use Rattle.racks.proofs.RackLawful.{rack_lawful}
use Rattle.racks.proofs.RackLaws.{rack_rules}
use Rattle.racks.proofs.rack.Rack.new.Goals as goal

pub invariant_of-result : goal.invariant_of-result
invariant_of-result c =
    let h = sizes c.args.loggers c.args.baths (sym c.is_rack.ensures ∙ c.if-not-is_rack.false) in
    record {
      some_logger = h.logger;
      some_bath = h.bath;
      few_pairs = h.pairs;
      few_loggers = h.loggers;
      few_baths = h.baths;
      lawful = ∣ rack_lawful c.args.loggers c.args.baths h.bath h.pairs h.loggers h.baths ∣₁;
    }

pub returns-clause-rules : goal.returns-clause-rules
returns-clause-rules c = rack_rules c.args.loggers c.args.baths
