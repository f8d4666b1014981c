use Rattle.std.proofs.Common.{refl, ap}
use Rattle.std.specs.Prelude.{option_map}
use Rattle.wasm_types.specs.Entries.{ExportValue}
use Rattle.canonical_options.specs.Passed.flat_types-View.{required_value}
use Rattle.link_table.specs.Linking.{linking_value}
use Rattle.link_table.specs.View.{options_value}
use Rattle.link_table.proofs.lookup.Lookup.export_link.Goals as goal

pub returns-clause-link : goal.returns-clause-link
returns-clause-link c =
    let l = linking_value c.args.self.now.linking in
    let found = c.in_ok-export.ensures.found in
    record {
      entry = record { function = c.args.function.now; name = found.«export».name; options = options_value l.main.exports c.in_ok-options.options };
      is_of = refl;
      is_entry = record {
        place = c.in_ok-export.«export»;
        is = found.is;
        «export» = found.«export»;
        there = found.there;
        named = refl;
        typed = found.typed;
        options = (required_value c.required-required.result, c.required-required.ensures.is, c.in_ok-options.ensures.options);
      };
      places = record { name = ap (option_map (λ (e : ExportValue). e.name)) found.there; options = refl };
    }
