-- Names within packages of texts differ, and what stands in their worlds stands there under its name.
use Rattle.std.proofs.Common.{◌≡◌, List, [], ◌∷◌, String, map, sym, subst}
use Rattle.std.specs.List.{AllByRecursion as Every}
use Rattle.std.specs.declared.alloc.Global.{Global}
use Rattle.wit_order.specs.Order.{Has}
use Rattle.wit_words.specs.declared.source_map.Span.{Span}
use Rattle.wit_types.specs.declared.world.World.{World}
use Rattle.wit_types.specs.declared.world.WorldInclude.{WorldInclude}
use Rattle.wit_types.specs.declared.world.WorldItem.{WorldItem}
use Rattle.wit_types.specs.declared.world.WorldItem.TheVariants as item
use Rattle.wit_types.specs.declared.world_key.WorldKey.{WorldKey}
use Rattle.wit_types.specs.declared.world_key.WorldKey.TheVariants as key
use Rattle.wit_types.specs.declared.«package».UnresolvedPackage.{UnresolvedPackage}
use Rattle.wit_scopes.specs.declared.worlds.Side.TheVariants.{Export}
use Rattle.wit_elaborated.specs.Worlds.{IsKeyOfItem, AreKeysOfItems}
use Rattle.wit_well_formed.specs.Passed.wit_labels-Labels.{AreNamesWithinApart}
use Rattle.wit_well_formed.specs.Passed.wit_labels-Named.{IsNamedItem, IsSidePlain, IsSideNamed, ArePlainChanges}
use Rattle.wit_offsets.specs.Offsets.{item_by, include_by, world_by, span_at}
use Rattle.wit_well_formed.specs.Passed.wit_package-Resolved.{context_of}
use Rattle.wit_well_formed.proofs.Passed.wit_placed-Members.{has_at}
use Rattle.wit_plain_texts.proofs.Scopes.{each_map}
use Rattle.wit_reach.proofs.Holding.{has_mapped}
use Rattle.wit_well_formed.specs.Passed.wit_resolved_scopes-Texts.{side_members}
use Rattle.wit_labelled_packages.proofs.Parsed.{each_parsed}
use Rattle.wit_well_formed.specs.Marks.{ParsedWorldsAreNamed}
use Rattle.wit_well_formed.specs.Within.{NamesWithinAreApart}
use Rattle.wit_well_formed.proofs.Keys.{entries_keys}
use Rattle.wit_well_formed.proofs.NamesWithin.{of_worlds}
use Rattle.wit_well_formed.proofs.OffsetNames.{plain_apart}
use Rattle.wit_well_formed.proofs.Offsets.{items_are}
use Rattle.wit_labelled_graphs.specs.Named.{IsNoFunction, IsUnderName, AreFunctionsUnderNames, IsOwnWorldNamed}
use Rattle.wit_labelled_packages.specs.Texts.{ParsedPackagesHaveNamesApart, ExportedFunctionsAreUnderNames, ParsedPackagesHaveNamedWorlds, MovedPackagesHaveNamedWorlds}

pub parsed_apart : NamesWithinAreApart → ParsedPackagesHaveNamesApart
parsed_apart apart texts main nested are p has = each_parsed (λ (q : UnresolvedPackage). AreNamesWithinApart q.types q.interfaces q.worlds) apart texts main nested are p has

-- under the key of an interface stands that interface
key_under : (k : WorldKey) (b : WorldItem) → IsKeyOfItem (k, b) → IsUnderName (k, b)
key_under (key.Name x) b h = tt
key_under (key.Interface i) (item.Interface id stability span) h = tt
key_under (key.Interface i) (item.Function f) h = absurd (let e : [] ≡ i ∷ [] = h in cc)
key_under (key.Interface i) (item.TypeItem id span) h = tt

keys_under : (es : List (WorldKey × WorldItem)) → AreKeysOfItems es → AreFunctionsUnderNames es
keys_under [] h = tt
keys_under (e ∷ es) h = (key_under e.0 e.1 h.0, keys_under es h.1)

pub exported_under : ExportedFunctionsAreUnderNames
exported_under files p r w has =
    let at = has_at p.worlds w has in
    of_worlds files p r (λ (v : World). AreFunctionsUnderNames v.exports.entries) (λ v imports exports includes. subst AreFunctionsUnderNames (sym exports) tt)
    (λ k scope v at_k is.
    keys_under v.exports.entries
    (entries_keys (context_of r.resolved.me files r.resolved.items r.resolved.sorted) scope.name.text p.types is.table (side_members Export scope.members) v.exports.entries is.lists_are.exports_are)) at.0 w at.1

pub parsed_named : ParsedWorldsAreNamed → ExportedFunctionsAreUnderNames → ParsedPackagesHaveNamedWorlds
parsed_named named under texts main nested are p has w in_package = record {
  named = named texts main nested are p has w in_package;
  under = each_parsed (λ (q : UnresolvedPackage). (v : World) → Has q.worlds v → AreFunctionsUnderNames v.exports.entries) under texts main nested are p has w in_package;
}

-- ---- with its places elsewhere

module _ (f : Span → Span) where
  item_named : (x : String Global) (b : WorldItem) → IsNamedItem x b → IsNamedItem x (item_by f b)
  item_named x (item.Interface id stability span) h = tt
  item_named x (item.Function g) h = h
  item_named x (item.TypeItem id span) h = tt

  side_plain : (es : List (WorldKey × WorldItem)) → IsSidePlain es → IsSidePlain (map (λ (e : WorldKey × WorldItem). (e.0, item_by f e.1)) es)
  side_plain [] h = tt
  side_plain ((key.Name x, b) ∷ es) h = ((h.0.0, item_named x b h.0.1), side_plain es h.1)
  side_plain ((key.Interface i, b) ∷ es) h = (tt, side_plain es h.1)

  side_named : (es : List (WorldKey × WorldItem)) → IsSideNamed es → IsSideNamed (map (λ (e : WorldKey × WorldItem). (e.0, item_by f e.1)) es)
  side_named es h = record { apart = plain_apart f es h.apart; plain = side_plain es h.plain }

  item_under : (b : WorldItem) → IsNoFunction b → IsNoFunction (item_by f b)
  item_under (item.Interface id stability span) h = tt
  item_under (item.Function g) h = h
  item_under (item.TypeItem id span) h = tt

  side_under : (es : List (WorldKey × WorldItem)) → AreFunctionsUnderNames es → AreFunctionsUnderNames (map (λ (e : WorldKey × WorldItem). (e.0, item_by f e.1)) es)
  side_under [] h = tt
  side_under ((key.Name x, b) ∷ es) h = (tt, side_under es h.1)
  side_under ((key.Interface i, b) ∷ es) h = (item_under b h.0, side_under es h.1)

  world_named : (w : World) → IsOwnWorldNamed w → IsOwnWorldNamed (world_by f w)
  world_named w h = record {
    named = record {
      imports_named = side_named w.imports.entries h.named.imports_named;
      exports_named = side_named w.exports.entries h.named.exports_named;
      changes =
          subst (λ (is : List WorldInclude). Every (λ (i : WorldInclude). ArePlainChanges i.names.items) is) (sym (items_are (include_by f) w.includes))
          (each_map (λ (i : WorldInclude). ArePlainChanges i.names.items) (λ (i : WorldInclude). ArePlainChanges i.names.items) (include_by f) (λ i is. is) w.includes.items h.named.changes);
    };
    under = side_under w.exports.entries h.under;
  }

pub moved_named : MovedPackagesHaveNamedWorlds
moved_named p n h w has = (let r = has_mapped (world_by (span_at n)) p.worlds w has in subst IsOwnWorldNamed r.2 (world_named (span_at n) r.0 (h r.0 r.1)))
