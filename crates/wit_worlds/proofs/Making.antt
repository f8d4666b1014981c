-- The imports and exports of a world that is made, by their keys.
use Rattle.std.proofs.Common.{◌≡◌, ℕ, List, ◌++◌, Some, true, sym, ◌∙◌}
use Rattle.std.specs.Prelude.{slice_get}
use Rattle.wit_types.specs.declared.function.Function.{Function}
use Rattle.wit_types.specs.declared.interface.TypeDef.{TypeDef}
use Rattle.wit_types.specs.WorldKey.{spelled, known, key_eq, known_eq-Decides}
use Rattle.wit_scopes.specs.declared.worlds.Side.{Side}
use Rattle.wit_scopes.specs.declared.worlds.Side.TheVariants.{Import}
use Rattle.wit_scopes.specs.Scopes.{WorldScope}
use Rattle.wit_arena.specs.Table.{Entries}
use Rattle.wit_resolved_scopes.specs.Each.{Each}
use Rattle.wit_resolved_scopes.specs.Scope.{functions_among}
use Rattle.wit_resolved_scopes.specs.InArena.{IsFunctionOf}
use Rattle.wit_resolved_scopes.specs.Texts.{labelled_texts, own_members, side_members}
use Rattle.wit_resolved_scopes.proofs.Eaches.{each_length, each_right}
use Rattle.wit_worlds.specs.Worlds.{Entry, IsTypeEntry}
use Rattle.wit_worlds.specs.Paths.{PathsTree}
use Rattle.wit_worlds.specs.Listing.{IsEntryMade}
use Rattle.wit_worlds.specs.Making.{MayMake, MayList}
use Rattle.wit_worlds.proofs.Keys.{entries_apart, no_such_entry, both_apart}

module _ (ps : PathsTree) (w : WorldScope) (a : List TypeDef) (table : Entries) (fs : List Function) (ids : List ℕ) (may : MayMake ps w a table fs ids) where
  pub may_list : MayList ps w fs ids
  may_list = record {
    functions = sym (each_length (IsFunctionOf table) (functions_among (own_members w.members)) fs may.functions);
    labelled = may.labelled;
    there = may.there;
    sorts = may.sorts;
    interfaces_fit = may.interfaces_fit;
    worlds_fit = may.worlds_fit;
  }

  -- of one side
  pub side_apart : (s : Side) (es : List Entry) → Each (IsEntryMade ps w.name.text (functions_among (own_members w.members)) fs (labelled_texts w) ids) (side_members s w.members) es
      → (i j : ℕ) (e f : Entry) → slice_get es i ≡ Some e → slice_get es j ≡ Some f → key_eq e.0 f.0 ≡ true → i ≡ j
  side_apart s es each i j e f at_i at_j same =
      entries_apart ps may.one_owner w.name.text (functions_among (own_members w.members)) fs (labelled_texts w) ids table may.functions (side_members s w.members) es each (may.keys_apart s) i j e f at_i at_j same

  module _ (types : List Entry) (types_are : Each (IsTypeEntry a) table types) where
    types_apart : (i j : ℕ) (e f : Entry) → slice_get types i ≡ Some e → slice_get types j ≡ Some f → key_eq e.0 f.0 ≡ true → i ≡ j
    types_apart i j e f at_i at_j same =
        let t = each_right (IsTypeEntry a) table types types_are i e at_i in
        let u = each_right (IsTypeEntry a) table types types_are j f at_j in
        let keys : spelled t.0.0 ≡ spelled u.0.0 = sym t.2.key ∙ (known_eq-Decides (known e.0) (known f.0)).0 same ∙ u.2.key in
        let names : t.0.0 ≡ u.0.0 = cc in
        may.names_apart i j t.0 u.0 t.1 u.1 names

    -- of the import side, with the types in front
    pub imports_apart : (others : List Entry) → Each (IsEntryMade ps w.name.text (functions_among (own_members w.members)) fs (labelled_texts w) ids) (side_members Import w.members) others
        → (i j : ℕ) (e f : Entry) → slice_get (types ++ others) i ≡ Some e → slice_get (types ++ others) j ≡ Some f → key_eq e.0 f.0 ≡ true → i ≡ j
    imports_apart others each = both_apart types others types_apart (side_apart Import others each) across
      where
        across : (i j : ℕ) (e f : Entry) → slice_get types i ≡ Some e → slice_get others j ≡ Some f → known e.0 ≡ known f.0 → ⊥
        across i j e f at_i at_j same =
            let t = each_right (IsTypeEntry a) table types types_are i e at_i in
            no_such_entry ps may.one_owner w.name.text (functions_among (own_members w.members)) fs (labelled_texts w) ids table may.functions (side_members Import w.members) others each t.0.0 (λ x has is. may.types_apart t.0 x (i, t.1) has is) j f at_j (sym same ∙ t.2.key)
