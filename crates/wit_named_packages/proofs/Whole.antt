-- Packages of texts are named.
use Rattle.std.proofs.Common.{◌≡◌, ℕ, ◌+◌, List, Some, String, sym}
use Rattle.std.specs.Prelude.{option_map, slice_get, string_bytes}
use Rattle.std.specs.declared.alloc.Global.{Global}
use Rattle.wit_types.specs.declared.interface.TypeDef.{TypeDef}
use Rattle.wit_arena.proofs.Unfolding.{option_map_some}
use Rattle.wit_well_formed.proofs.Passed.wit_resolved_scopes-Orders.{listed}
use Rattle.wit_core_names.specs.Texts.{IsNameOf}
use Rattle.wit_well_formed.specs.Passed.wit_graph_parts-Own.{asked, own_parts}
use Rattle.wit_well_formed.specs.Marks.{ParsedPackagesHavePlainNames}
use Rattle.wit_well_formed.specs.Naming.{InterfacesAreNamedApart}
use Rattle.wit_well_formed.specs.Plain.{WorldsAreUnderTheirNames}
use Rattle.wit_well_formed.proofs.Lists.{get_drop, has_drop}
use Rattle.wit_well_formed.proofs.PlainTexts.{of_plain}
use Rattle.wit_named_packages.specs.Named.{ParsedPackagesAreNamed}
use Rattle.wit_named_packages.specs.Taking.{ResolvedInterfacesTakeByUse, ResolvedWorldsTakeByUse, UsedInterfacesAreNamed}

name_of : (types : List TypeDef) (id : ℕ) (x : String Global) → (d : TypeDef) × (slice_get types id ≡ Some d) × (option_map string_bytes d.name ≡ Some (string_bytes x)) → IsNameOf types id (string_bytes x)
name_of types id x (d, at, named) = (let n = option_map_some (λ (s : String Global). string_bytes s) d.name (string_bytes x) named in (d, n.0, at, n.1, sym n.2))

pub parsed_named : ResolvedInterfacesTakeByUse → ResolvedWorldsTakeByUse → UsedInterfacesAreNamed → InterfacesAreNamedApart → ParsedPackagesHavePlainNames → WorldsAreUnderTheirNames → ParsedPackagesAreNamed
parsed_named interfaces worlds used apart plain under texts main nested parsed p has =
    let r = of_plain texts main nested parsed p has in
    let names = plain texts main nested parsed p has in
    record {
      interfaces_take = interfaces r.files p r.resolves;
      worlds_take = λ k w at. worlds r.files p r.resolves ((asked p).worlds + k) w (get_drop (asked p).worlds p.worlds k w at);
      apart = record { apart = apart r.files p r.resolves; names = λ i d x at named. names.interfaces d x (listed (own_parts p).interfaces d (i, at)) named };
      used = used r.files p r.resolves;
      plain = λ w there.
          (let here = has_drop (asked p).worlds p.worlds w there in
          let names_of = under r.files p r.resolves w here in
          record { plain = (names.worlds w here).imports; functions = names_of.imports.functions; types_are = λ x id span entry. name_of p.types id x (names_of.imports.types_are x id span entry) });
      renames = λ w there i in_world n in_include. (names.worlds w (has_drop (asked p).worlds p.worlds w there)).includes i n in_world in_include;
    }
