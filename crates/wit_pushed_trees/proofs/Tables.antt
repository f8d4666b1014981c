-- Tables by names: no name stands in one twice.
use Rattle.std.proofs.Common.{◌≡◌, ℕ, zero, suc, Bool, true, false, List, [], ◌∷◌, ◌++◌, map, Some, bytes_eq, inl, inr, refl, sym, subst, ap, ◌∙◌, arith}
use Rattle.std.proofs.lemmas.Option.{same_Some, slice_get-map}
use Rattle.std.proofs.lemmas.Slice.Eq.{bytes_eq-Decides}
use Rattle.std.specs.Prelude.{String, if◌then◌else◌, option_map, slice_get}
use Rattle.std.specs.declared.alloc.Global.{Global}
use Rattle.indexmap.specs.IndexMap.{insert_entry, insert_all}
use Rattle.wit_types.specs.declared.«package».Package.{Package}
use Rattle.wit_arena.proofs.Lists.{get_more}
use Rattle.wit_graph.specs.Passed.wit_graph_worlds-Names.{Pair, by_bytes, AreNames}
use Rattle.wit_graph.specs.Passed.wit_placed-Naming.{AreNamesApart}
use Rattle.wit_pushed_trees.specs.Apart.{AreTablesApart, IsNewText}
use Rattle.wit_pushed_trees.specs.Asked.{text_of}

abbrev AreKeysApart : List Pair → Type 0
AreKeysApart es = (i j : ℕ) (a b : Pair) → slice_get es i ≡ Some a → slice_get es j ≡ Some b → a.0 ≡ b.0 → i ≡ j

abbrev IsNewKey : List Pair → List ℕ → Type 0
IsNewKey es k = (i : ℕ) (a : Pair) → slice_get es i ≡ Some a → a.0 ≡ k → ⊥

with_first : (x : Pair) (es : List Pair) → AreKeysApart es → IsNewKey es x.0 → AreKeysApart (x ∷ es)
with_first x es apart new zero zero a b at_i at_j same = refl
with_first x es apart new zero (suc j) a b at_i at_j same = absurd (new j b at_j (sym same ∙ ap (λ (e : Pair). e.0) (sym (same_Some x a at_i))))
with_first x es apart new (suc i) zero a b at_i at_j same = absurd (new i a at_i (same ∙ ap (λ (e : Pair). e.0) (sym (same_Some x b at_j))))
with_first x es apart new (suc i) (suc j) a b at_i at_j same = (let e : i ≡ j = apart i j a b at_i at_j same in omega (arith, e))

rest_apart : (x : Pair) (es : List Pair) → AreKeysApart (x ∷ es) → AreKeysApart es
rest_apart x es apart i j a b at_i at_j same = (let e : suc i ≡ suc j = apart (suc i) (suc j) a b at_i at_j same in omega (arith, e))

first_new : (x : Pair) (es : List Pair) → AreKeysApart (x ∷ es) → IsNewKey es x.0
first_new x es apart i a at same = (let e : 0 ≡ suc i = apart 0 (suc i) x a refl at (sym same) in omega (arith, e))

-- a key that is neither new nor the one that is put isn't there
insert_new : (es : List Pair) (k : List ℕ) (v : ℕ) (n : List ℕ) → IsNewKey es n → (k ≡ n → ⊥) → IsNewKey (insert_entry bytes_eq es k v) n
insert_new [] k v n new other zero a at same = other (ap (λ (e : Pair). e.0) (same_Some (k, v) a at) ∙ same)
insert_new [] k v n new other (suc i) a at same = absurd cc
insert_new (x ∷ es) k v n new other i a at same = by (bytes_eq k x.0) (λ j there. insert_new es k v n (λ m b is. new (suc m) b is) other j a there same) i at
  where
    by : (b : Bool) → ((j : ℕ) → slice_get (insert_entry bytes_eq es k v) j ≡ Some a → ⊥) → (i : ℕ) → slice_get (if b then (x.0, v) ∷ es else x ∷ insert_entry bytes_eq es k v) i ≡ Some a → ⊥
    by true rest zero at = new 0 x refl (ap (λ (e : Pair). e.0) (same_Some (x.0, v) a at) ∙ same)
    by true rest (suc i) at = new (suc i) a at same
    by false rest zero at = new 0 x refl (ap (λ (e : Pair). e.0) (same_Some x a at) ∙ same)
    by false rest (suc i) at = rest i at

insert_apart : (es : List Pair) (k : List ℕ) (v : ℕ) → AreKeysApart es → AreKeysApart (insert_entry bytes_eq es k v)
insert_apart [] k v apart = with_first (k, v) [] apart (λ i a at same. absurd cc)
insert_apart (x ∷ es) k v apart = by (bytes_eq k x.0) (insert_apart es k v (rest_apart x es apart)) refl
  where
    by : (b : Bool) → AreKeysApart (insert_entry bytes_eq es k v) → bytes_eq k x.0 ≡ b → AreKeysApart (if b then (x.0, v) ∷ es else x ∷ insert_entry bytes_eq es k v)
    by true rest e = with_first (x.0, v) es (rest_apart x es apart) (first_new x es apart)
    by false rest e = with_first x (insert_entry bytes_eq es k v) rest
        (insert_new es k v x.0 (first_new x es apart) (λ same. let yes : bytes_eq k x.0 ≡ true = (bytes_eq-Decides k x.0).1 same in let bad : true ≡ false = sym yes ∙ e in cc))

all_apart : (es ps : List Pair) → AreKeysApart es → AreKeysApart (insert_all bytes_eq es ps)
all_apart es [] apart = apart
all_apart es (p ∷ ps) apart = all_apart (insert_entry bytes_eq es p.0 p.1) ps (insert_apart es p.0 p.1 apart)

pub names_apart : (pairs : List Pair) (es : List (String Global × ℕ)) → AreNames pairs es → AreNamesApart es
names_apart pairs es are i j e f at_i at_j same =
    let all : AreKeysApart (map by_bytes es) = subst AreKeysApart (sym are) (all_apart [] pairs (λ i j a b at_i at_j same. absurd cc)) in
    all i j (by_bytes e) (by_bytes f) (slice_get-map by_bytes es i ∙ ap (option_map by_bytes) at_i) (slice_get-map by_bytes es j ∙ ap (option_map by_bytes) at_j) same

-- a package of a new name comes behind the others
pub tables_pushed : (packages : List Package) (q : Package) (all : List Package) → all ≡ packages ++ q ∷ [] → AreTablesApart packages → IsNewText packages q.name
    → AreNamesApart q.interfaces.entries → AreNamesApart q.worlds.entries → AreTablesApart all
tables_pushed packages q all are apart new interfaces worlds = subst AreTablesApart (sym are) (record {
  packages_are = λ i j a b at_i at_j same. elim (get_more packages q a i at_i) as (λ _. i ≡ j) [
    | inl old_i ↦ elim (get_more packages q b j at_j) as (λ _. i ≡ j) [
      | inl old_j ↦ apart.packages_are i j a b old_i old_j same
      | inr new_j ↦ absurd (new a (i, old_i) (same ∙ ap (λ (p : Package). text_of p.name) new_j.1))
    ]
    | inr new_i ↦ elim (get_more packages q b j at_j) as (λ _. i ≡ j) [
      | inl old_j ↦ absurd (new b (j, old_j) (sym same ∙ ap (λ (p : Package). text_of p.name) new_i.1))
      | inr new_j ↦ new_i.0 ∙ sym new_j.0
    ]
  ];
  interfaces_are = λ a has. elim (get_more packages q a has.0 has.1) as (λ _. AreNamesApart a.interfaces.entries) [
    | inl old ↦ apart.interfaces_are a (has.0, old)
    | inr last ↦ subst (λ (p : Package). AreNamesApart p.interfaces.entries) (sym last.1) interfaces
  ];
  worlds_are = λ a has. elim (get_more packages q a has.0 has.1) as (λ _. AreNamesApart a.worlds.entries) [
    | inl old ↦ apart.worlds_are a (has.0, old)
    | inr last ↦ subst (λ (p : Package). AreNamesApart p.worlds.entries) (sym last.1) worlds
  ];
})
