-- Worlds that say the same have the same names.
use Rattle.std.proofs.Common.{◌≡◌, ℕ, List, [], ◌∷◌, String, map, refl, sym, subst, ap, ◌∙◌}
use Rattle.std.specs.List.{AllZip}
use Rattle.std.specs.Prelude.{string_bytes}
use Rattle.std.specs.declared.alloc.Global.{Global}
use Rattle.distinct_names.specs.Names.{all_new}
use Rattle.wit_types.specs.declared.function.Param.{Param}
use Rattle.wit_types.specs.declared.world.World.{World}
use Rattle.wit_types.specs.declared.world.WorldItem.{WorldItem}
use Rattle.wit_types.specs.declared.world_key.WorldKey.{WorldKey}
use Rattle.wit_copies.specs.Same as copy
use Rattle.wit_copies.specs.Same.{IsSameKey, IsSameItem, IsSameParam}
use Rattle.wit_labels.specs.Passed.wit_plain_texts-Plain.{IsPlain}
use Rattle.wit_labels.specs.Labels.{IsItemApart, IsSideApart, IsWorldApart}
use Rattle.wit_labels.specs.Named.{IsNamedItem, IsPlainEntry, IsSidePlain}
use Rattle.wit_graph.specs.Passed.wit_graph_worlds-Copies.{AreSameEntries, IsSameWorld}
use Rattle.wit_labelled_graphs.specs.Named.{IsNamedPlainly}
use Rattle.wit_labelled_graphs.proofs.Under.{same_under}

abbrev Entry : Type 0
Entry = WorldKey × WorldItem

-- ---- parameters

params_named : (ps qs : List Param) → AllZip IsSameParam ps qs → map (λ (p : Param). string_bytes p.name) qs ≡ map (λ (p : Param). string_bytes p.name) ps
params_named [] [] same = refl
params_named [] (q ∷ qs) same = absurd same
params_named (p ∷ ps) [] same = absurd same
params_named (p ∷ ps) (q ∷ qs) same = ap (λ (x : List ℕ). x ∷ map (λ (z : Param). string_bytes z.name) qs) same.0.name ∙ ap (λ (xs : List (List ℕ)). string_bytes p.name ∷ xs) (params_named ps qs same.1)

item_apart : (a b : WorldItem) → IsSameItem a b → IsItemApart a → IsItemApart b
item_apart _ _ (copy.same_interface id s t span same) h = tt
item_apart _ _ (copy.same_function f g same) h = ap (all_new []) (params_named f.params.items g.params.items same.params) ∙ h
item_apart _ _ (copy.same_type id span) h = tt

side_apart : (es fs : List Entry) → AreSameEntries es fs → IsSideApart es → IsSideApart fs
side_apart [] [] same h = tt
side_apart [] (x ∷ fs) same h = absurd same
side_apart (e ∷ es) [] same h = absurd same
side_apart (e ∷ es) (x ∷ fs) same h = (item_apart e.1 x.1 same.0.1 h.0, side_apart es fs same.1 h.1)

pub world_apart : (w v : World) → IsSameWorld w v → IsWorldApart w → IsWorldApart v
world_apart w v same h = record { imports = side_apart w.imports.entries v.imports.entries same.imports h.imports; exports = side_apart w.exports.entries v.exports.entries same.exports h.exports }

-- ---- plain names

item_named : (x y : String Global) (a b : WorldItem) → string_bytes y ≡ string_bytes x → IsSameItem a b → IsNamedItem x a → IsNamedItem y b
item_named x y _ _ e (copy.same_interface id s t span same) h = tt
item_named x y _ _ e (copy.same_function f g same) h = same.name ∙ h ∙ sym e
item_named x y _ _ e (copy.same_type id span) h = tt

entry_plain : (k l : WorldKey) (a b : WorldItem) → IsSameKey k l → IsSameItem a b → IsPlainEntry (k, a) → IsPlainEntry (l, b)
entry_plain _ _ a b (copy.same_name x y e) same h = (subst IsPlain (sym e) h.0, item_named x y a b e same h.1)
entry_plain _ _ a b (copy.same_key_interface i) same h = tt

side_plain : (es fs : List Entry) → AreSameEntries es fs → IsSidePlain es → IsSidePlain fs
side_plain [] [] same h = tt
side_plain [] (x ∷ fs) same h = absurd same
side_plain (e ∷ es) [] same h = absurd same
side_plain (e ∷ es) (x ∷ fs) same h = (entry_plain e.0 x.0 e.1 x.1 same.0.0 same.0.1 h.0, side_plain es fs same.1 h.1)

pub world_plain : (w v : World) → IsSameWorld w v → IsNamedPlainly w → IsNamedPlainly v
world_plain w v same h = record {
  plain = record {
    imports_plain = side_plain w.imports.entries v.imports.entries same.imports h.plain.imports_plain;
    exports_plain = side_plain w.exports.entries v.exports.entries same.exports h.plain.exports_plain;
  };
  under = same_under w.exports.entries v.exports.entries same.exports h.under;
}
