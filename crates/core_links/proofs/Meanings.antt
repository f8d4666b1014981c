-- What imports stand for, one by one.
use Rattle.std.proofs.Common.{◌≡◌, ℕ, zero, suc, ◌+◌, ◌<◌, ◌≤◌, ◌⊎◌, Bool, true, false, not, List, [], ◌∷◌, ◌++◌, length, Option, Some, None, inl, inr, refl, sym, subst, ap, ◌∙◌, arith}
use Rattle.std.proofs.lemmas.List.{length_push, length-map, take_all}
use Rattle.std.proofs.lemmas.Option.{same_Some, slice_get_within, slice_get-get_or}
use Rattle.std.specs.Prelude.{slice_get, get_or, take, map}
use Rattle.wasm_types.specs.declared.entries.Import.{Import}
use Rattle.wasm_types.specs.Entries.{ImportValue, import_value}
use Rattle.wit_core_tables.specs.declared.table.Meaning.{Meaning}
use Rattle.wit_core_tables.specs.declared.table.Meaning.TheVariants.{One, Ambiguous}
use Rattle.wit_core_items.specs.ImportPlaces.{import_at as import_place}
use Rattle.wit_core_items.specs.World.{IsReadAs, core_imports, ImportStandsFor}
use Rattle.wit_core_items.specs.declared.import_places.ImportPlace.{ImportPlace}
use Rattle.wit_core_names.specs.Items.{CoreImport}
use Rattle.core_links.specs.Names.{Names, counts_legacy, IsImport}
use Rattle.core_links.specs.Imports.{is_outer_memory, IsUnknown, IsMeaning, StandsFor, StandsAt, AreMeanings, IsAmbiguous, IsLegacyAlone, IsImportsCause, IsImportCause}
use Rattle.core_links.specs.Pairs.{Pair, pair_of, is_new}
use Rattle.core_links.specs.declared.fault.LinkFault.{LinkFault}
use Rattle.core_links.specs.declared.fault.LinkFault.TheVariants as faults
use Rattle.core_links.proofs.Paired.{pairs_before, AreNew, pair_repeats, import_at, take_next, pairs_next, new_more}

module _ (n : Names) (i : ImportValue) (found : Option Meaning) (read : IsReadAs (IsImport n i.place i.name) found) where
  pub one_means : (place : ℕ) → is_outer_memory i ≡ false → found ≡ Some (One place) → IsMeaning n i place
  one_means place inner one = record { stands = (read.one place one).0; only = (read.one place one).1; inner = inner }

  pub several_mean : found ≡ Some Ambiguous → IsAmbiguous n i
  several_mean several = read.several several

  pub nothing_means : found ≡ None → (j : ℕ) → IsImport n i.place i.name j → ⊥
  nothing_means none = read.none none

-- with legacy names it is read as something
pub legacy_alone : (n : Names) (i : ImportValue) (found : Option Meaning) (m : Meaning) → IsReadAs (ImportStandsFor n.known n.world true i.place i.name) found → n.rejects_legacy ≡ true → ((j : ℕ) → IsImport n i.place i.name j → ⊥) → found ≡ Some m → IsLegacyAlone n i
legacy_alone n i found (One place) read rejects none is = record { rejects = rejects; none = none; place = place; stands = (read.one place is).0 }
legacy_alone n i found Ambiguous read rejects none is = record { rejects = rejects; none = none; place = (read.several is).0; stands = (read.several is).2 }

-- without them too
pub unknown_counting : (n : Names) (i : ImportValue) → is_outer_memory i ≡ false → counts_legacy n ≡ true → ((j : ℕ) → IsImport n i.place i.name j → ⊥) → IsUnknown n i
unknown_counting n i outside counts none = (outside, λ j h. none j (subst (λ (b : Bool). ImportStandsFor n.known n.world b i.place i.name j) (sym counts) h))

pub unknown_anyway : (n : Names) (i : ImportValue) (found : Option Meaning) → IsReadAs (ImportStandsFor n.known n.world true i.place i.name) found → is_outer_memory i ≡ false → found ≡ None → IsUnknown n i
unknown_anyway n i found read outside none = (outside, read.none none)

pub means_within : (n : Names) (i : ImportValue) (place : ℕ) → IsMeaning n i place → place < length (core_imports n.known n.world)
means_within n i place m = slice_get_within (core_imports n.known n.world) place m.stands.0 m.stands.1

pub stands_for : (n : Names) (i : ImportValue) (place : ℕ) (x : CoreImport) → IsMeaning n i place → slice_get (core_imports n.known n.world) place ≡ Some x → StandsFor n i x
stands_for n i place x m at = record { place = place; means = m; is = at }

-- where the world has it
pub read_at : (n : Names) (i : ImportValue) (place : ℕ) (p : ImportPlace) → IsMeaning n i place → import_place n.known n.world p ≡ slice_get (core_imports n.known n.world) place → StandsAt n i p
read_at n i place p m has = record { item = m.stands.0; has = has ∙ m.stands.1; stands = stands_for n i place m.stands.0 m m.stands.1 }

-- ---- all of them

pub get_more : {X : Type 0} (xs : List X) (y x : X) (k : ℕ) → slice_get (xs ++ y ∷ []) k ≡ Some x → (slice_get xs k ≡ Some x) ⊎ ((k ≡ length xs) × (y ≡ x))
get_more [] y x zero h = inr (refl, same_Some y x h)
get_more [] y x (suc k) h = absurd cc
get_more (z ∷ xs) y x zero h = inl h
get_more (z ∷ xs) y x (suc k) h = elim (get_more xs y x k h) [
  | inl there ↦ inl there
  | inr last ↦ inr (ap (λ m. suc m) last.0, last.1)
]

pub none_mean : (n : Names) → AreMeanings n [] []
none_mean n = record { so_many = refl; each = λ k i place at there. absurd (let f : None ≡ Some i = at in cc) }

pub one_more_means : (n : Names) (is : List ImportValue) (i : ImportValue) (places : List ℕ) (place : ℕ) → AreMeanings n is places → IsMeaning n i place → AreMeanings n (is ++ i ∷ []) (places ++ place ∷ [])
one_more_means n is i places place all one = record {
  so_many = length_push places place ∙ ap (λ (m : ℕ). m + 1) all.so_many ∙ sym (length_push is i);
  each = λ k j p at there. elim (get_more is i j k at) as (λ _. IsMeaning n j p) [
    | inl was ↦ elim (get_more places place p k there) as (λ _. IsMeaning n j p) [
      | inl stood ↦ all.each k j p was stood
      | inr last ↦ absurd (let w = slice_get_within is k j was in let e = last.0 in let s = all.so_many in omega (arith, w, e, s))
    ]
    | inr last ↦ elim (get_more places place p k there) as (λ _. IsMeaning n j p) [
      | inl stood ↦ absurd (let w = slice_get_within places k p stood in let e = last.0 in let s = all.so_many in omega (arith, w, e, s))
      | inr end ↦ subst (λ (x : ImportValue). IsMeaning n x p) last.1 (subst (IsMeaning n i) end.1 one)
    ]
  ];
}

-- ---- what is rejected

pub rejects_from : (n : Names) → counts_legacy n ≡ false → n.rejects_legacy ≡ true
rejects_from n e = by n.rejects_legacy e
  where
    by : (b : Bool) → not b ≡ false → b ≡ true
    by true e = refl
    by false e = absurd cc

-- ---- why one isn't linked

-- what is so of one import is so of all
pub of_one : (n : Names) (is : List ImportValue) (k : ℕ) (i : ImportValue) (e : LinkFault) → slice_get is k ≡ Some i → IsImportCause n i e → IsImportsCause n is e
of_one n is k i faults.NotYet at h = (k, i, at, h)
of_one n is k i faults.DuplicateImport at h = absurd h
of_one n is k i faults.UnknownImport at h = (k, i, at, h)
of_one n is k i faults.Ambiguous at h = (k, i, at, h)
of_one n is k i faults.LegacyName at h = (k, i, at, h)
of_one n is k i faults.WrongCoreType at h = absurd h
of_one n is k i faults.MissingCoreExport at h = absurd h
of_one n is k i faults.OutOfMemory at h = tt

-- ---- a walk over imports

-- so far pairs are new, and imports stand for what is at these places
pub record Walked (n : Names) (is : List ImportValue) (k : ℕ) (seen : List Pair) (places : List ℕ) : Type 0 where
  pub seen_are : seen ≡ pairs_before is k
  pub new : AreNew is k
  pub mean : AreMeanings n (take k is) places

pub walked_none : (n : Names) (is : List ImportValue) (seen : List Pair) (places : List ℕ) → seen ≡ [] → places ≡ [] → Walked n is 0 seen places
walked_none n is seen places e f = record { seen_are = e; new = λ k i lt at. absurd (omega (arith, lt)); mean = subst (AreMeanings n []) (sym f) (none_mean n) }

module _ (n : Names) (xs : List Import) (k : ℕ) (d : Import) (lt : k < length xs) where
  abbrev one : ImportValue
  one = import_value (get_or xs k d)

  abbrev all : List ImportValue
  all = map import_value xs

  at : slice_get all k ≡ Some one
  at = import_at xs k d lt

  pub walked_next : (seen seen2 : List Pair) (places places2 : List ℕ) (place : ℕ) → Walked n all k seen places → is_new seen (pair_of one) ≡ true → seen2 ≡ seen ++ pair_of one ∷ [] → IsMeaning n one place → places2 ≡ places ++ place ∷ []
      → Walked n all (k + 1) seen2 places2
  walked_next seen seen2 places places2 place w fresh more means added = record {
    seen_are = more ∙ ap (λ (ps : List Pair). ps ++ pair_of one ∷ []) w.seen_are ∙ pairs_next all k one at;
    new = new_more all k one at (subst (λ (ps : List Pair). is_new ps (pair_of one) ≡ true) w.seen_are fresh) w.new;
    mean = subst (λ (js : List ImportValue). AreMeanings n js places2) (sym (take_next all k one at)) (subst (AreMeanings n (take k all ++ one ∷ [])) (sym added) (one_more_means n (take k all) one places place w.mean means));
  }

  -- why one isn't linked is why all aren't
  pub one_cause : (e : LinkFault) → IsImportCause n one e → IsImportsCause n all e
  one_cause e h = of_one n all k one e at h

  pub pair_cause : (seen : List Pair) (places : List ℕ) (e : LinkFault) → Walked n all k seen places → ((e ≡ faults.DuplicateImport) × (is_new seen (pair_of one) ≡ false)) ⊎ (e ≡ faults.OutOfMemory) → IsImportsCause n all e
  pair_cause seen places e w (inl twice) = subst (IsImportsCause n all) (sym twice.0) (pair_repeats all k one at (subst (λ (ps : List Pair). is_new ps (pair_of one) ≡ false) w.seen_are twice.1))
  pair_cause seen places e w (inr memory) = subst (IsImportsCause n all) (sym memory) tt

pub walked_all : (n : Names) (xs : List Import) (k : ℕ) (seen : List Pair) (places : List ℕ) → length xs ≤ k → Walked n (map import_value xs) k seen places → AreMeanings n (map import_value xs) places
walked_all n xs k seen places past w =
    let m : length (map import_value xs) ≡ length xs = length-map xs import_value in
    subst (λ (js : List ImportValue). AreMeanings n js places) (take_all k (map import_value xs) (omega (arith, m, past))) w.mean

-- the place of one
pub place_at : (places : List ℕ) (is : List ImportValue) (k p : ℕ) → length places ≡ length is → k < length is → p ≡ get_or places k p → slice_get places k ≡ Some p
place_at places is k p so_many lt e = slice_get-get_or places k p (omega (arith, so_many, lt)) ∙ ap (λ (q : ℕ). Some q) (sym e)

pub one_there : (is : List ImportValue) (k : ℕ) → k < length is → (i : ImportValue) × (slice_get is k ≡ Some i)
one_there [] k lt = absurd (omega (arith, lt))
one_there (i ∷ is) zero lt = (i, refl)
one_there (i ∷ is) (suc k) lt = one_there is k (omega (arith, lt))
