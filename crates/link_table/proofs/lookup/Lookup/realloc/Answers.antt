use Rattle.std.proofs.Common.{inr, refl, sym, ◌∙◌}
use Rattle.wasm_types.specs.Entries.{export_value}
use Rattle.link_table.specs.Linking.{linking_value}
use Rattle.link_table.proofs.Found.{export_at, realloc_there}
use Rattle.link_table.proofs.lookup.Lookup.realloc.Goals as goal

pub returns-then-not-is_realloc_type-clause-cause : goal.returns-then-not-is_realloc_type-clause-cause
returns-then-not-is_realloc_type-clause-cause c =
    let l = linking_value c.args.self.now.linking in
    let at = realloc_there l c.args.variant c.in_ok-place.place c.in_ok-place.ensures.place in
    inr (
      refl,
      record {
        place = c.in_ok-place.place;
        is = c.in_ok-place.ensures.place;
        «export» = export_value c.index.result.now;
        there = export_at c.args.self.now.linking.main.now.exports.items c.in_ok-place.place c.index.result.now at.0 at.1 c.index.ensures;
        typed = λ e. c.is_realloc_type.ensures.is_not c.if-not-is_realloc_type.true (c.exported_type.ensures ∙ e);
      },
    )

pub returns-clause-has : goal.returns-clause-has
returns-clause-has c =
    let l = linking_value c.args.self.now.linking in
    let at = realloc_there l c.args.variant c.in_ok-place.place c.in_ok-place.ensures.place in
    record {
      is = c.in_ok-place.ensures.place;
      «export» = export_value c.index.result.now;
      there = export_at c.args.self.now.linking.main.now.exports.items c.in_ok-place.place c.index.result.now at.0 at.1 c.index.ensures;
      typed = sym c.exported_type.ensures ∙ c.is_realloc_type.ensures.is c.if-not-is_realloc_type.false;
    }
