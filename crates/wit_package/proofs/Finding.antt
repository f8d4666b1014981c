-- What a package asks of others is there, so that its interfaces and worlds are ready.
use Rattle.std.proofs.Common.{◌≡◌, ℕ, List, ◌∷◌, subst, ap}
use Rattle.wit_words.specs.declared.source_map.Span.{Span}
use Rattle.wit_types.specs.declared.interface.TypeDef.{TypeDef}
use Rattle.wit_types.specs.declared.«package».AstItem.{AstItem}
use Rattle.wit_syntax.specs.Ast.{PackageNameTree, FileTree}
use Rattle.wit_scopes.specs.Paths.{file_uses}
use Rattle.wit_scopes.specs.Scopes.{ItemScope}
use Rattle.wit_rules.specs.Breaks.{IsKept}
use Rattle.wit_rules.specs.Facts.{IsDeclared}
use Rattle.wit_checked_lookups.specs.Passed.wit_lookups-declared-asks-Asked.{Asked}
use Rattle.wit_checked_lookups.specs.Passed.wit_lookups-Lookups.{LookupsBreak}
use Rattle.wit_arena.specs.Meaning.{Has}
use Rattle.wit_arena.proofs.Lists.{has_here, has_later, has_map}
use Rattle.wit_placeholders.specs.Passed.wit_package_types-Foreign.{ForeignName}
use Rattle.wit_placeholders.specs.Passed.wit_package_types-Known.{KnownTypes}
use Rattle.wit_placeholders.specs.Passed.wit_package_types-Stability.{IsReadWhere}
use Rattle.wit_placeholders.proofs.Passed.wit_package_types-Gated.{version_read_where}
use Rattle.wit_placeholders.specs.Passed.wit_foreign-Needs.{NeedTree, needs_in}
use Rattle.wit_placeholders.specs.Passed.wit_foreign-Items.{Items, place_asked, need_owner, AreItemsOf}
use Rattle.wit_placeholders.specs.Passed.wit_foreign-Unknown.{AreUnknown}
use Rattle.wit_placeholders.specs.Passed.wit_foreign-Deps.{HaveVersions}
use Rattle.wit_built_worlds.specs.Passed.wit_resolved_scopes-Fit.{Foreign}
use Rattle.wit_built_worlds.specs.Passed.wit_resolved_scopes-Texts.{AreItemsSorted, interfaces_of, worlds_of}
use Rattle.wit_built_worlds.specs.Passed.wit_readiness-Readiness.{FindsForeign}
use Rattle.wit_built_worlds.proofs.Passed.wit_readiness-Ready.{packages_are_ready}
use Rattle.wit_built_worlds.proofs.Numbers.{items_are_sorts}
use Rattle.wit_package.specs.Faults.{VersionsBreak, packages_in}
use Rattle.wit_package.specs.Resolved.{foreign_owners}
use Rattle.wit_package.specs.Built.{AreReadyTogether}
use Rattle.wit_package.proofs.Owning.{has_interface_owner, has_world_owner, are_owners}

-- what is there of other packages
abbrev pub others_of : Items → List (ForeignName × ℕ) → Foreign
others_of items types = record { owners = foreign_owners items; types = types }

module _ (scopes : List ItemScope) (needs : List NeedTree) (all : (n : NeedTree) → Has (needs_in scopes) n → Has needs n) (items : Items) (are : AreItemsOf needs items) (a : List TypeDef) (types : List (ForeignName × ℕ)) (spans : List Span) (unknown : AreUnknown items needs a types spans) where
  asked_place : (n : NeedTree) (asked : Asked) → n.asked ≡ asked → (need_owner n).place ≡ place_asked asked n.item.text
  asked_place n asked e = ap (λ (z : Asked). place_asked z n.item.text) e

  pub finds : FindsForeign scopes (others_of items types)
  finds = record {
    interfaces = λ n has e.
        (let there = are.there n (all n has) in
        let sort = (items_are_sorts needs items are).interfaces (need_owner n) n.item.text there.0 there.1 (asked_place n _ e) in
        has_interface_owner needs items are (need_owner n) sort.0 (subst (λ (i : AstItem). Has items (need_owner n, i)) sort.1 there.1));
    worlds = λ n has e.
        (let there = are.there n (all n has) in
        let sort = (items_are_sorts needs items are).worlds (need_owner n) n.item.text there.0 there.1 (asked_place n _ e) in
        has_world_owner needs items are (need_owner n) sort.0 (subst (λ (i : AstItem). Has items (need_owner n, i)) sort.1 there.1));
    types = λ n y has named. unknown.there n y (all n has) named;
  }

  pub ready_together : (files : List FileTree) (me : PackageNameTree) (k : KnownTypes) → k.foreign ≡ types → (sorted : List ItemScope) → IsDeclared files me scopes → IsKept (LookupsBreak me (file_uses files) scopes) → AreItemsSorted scopes sorted
      → AreReadyTogether k items (interfaces_of sorted) (worlds_of sorted)
  ready_together files me k known sorted declared kept sorts =
      let r = packages_are_ready files me scopes sorted (others_of items types) declared kept sorts finds in
      record { others = others_of items types; interfaces = r.interfaces; worlds = r.worlds; types = known; owners = are_owners items }

-- ---- versions

module _ (me : PackageNameTree) (needs : List NeedTree) (kept : IsKept (VersionsBreak (me ∷ packages_in needs))) where
  named_read : (p : PackageNameTree) → Has (me ∷ packages_in needs) p → IsReadWhere p.version
  named_read p (k, at) = version_read_where p.version (λ rule where_ b. kept rule where_ (record { place = k; one = p; there = at; breaks = b }))

  pub own_version : IsReadWhere me.version
  own_version = named_read me (has_here me (packages_in needs))

  pub versions_read : HaveVersions needs
  versions_read n has = named_read n.«package» (has_later me (packages_in needs) n.«package» (has_map (λ (m : NeedTree). m.«package») needs n has))
