-- What the main module is given for each of its imports: the lowering of the import's own function.
use Rattle.std.proofs.Common.{◌≡◌, ℕ, suc, List, [], ◌∷◌, ◌++◌, length, Bool, true, false, Option, Some, refl, sym, ap, subst, ◌∙◌, inl, inr}
use Rattle.std.specs.Prelude.{map, filter, slice_get, option_and_then, bytes_eq, not, ◌&&◌, ◌⊎◌}
use Rattle.std.specs.List.{AllByRecursion as Each, flat_map}
use Rattle.std.proofs.lemmas.Bool.{cases_Bool, and_parts, or_cases}
use Rattle.wasm_types.specs.Types.{FuncTypeValue}
use Rattle.known_definitions.specs.Definition.{InlineExportValue}
use Rattle.plain_worlds.specs.World.{FunctionItem}
use Rattle.wit_component.specs.Flat.{flat}
use Rattle.wit_component.specs.CoreNames.{root, standard, is_import_name, is_legacy_import, is_standard_import}
use Rattle.wit_component.specs.Linking.{CoreImport, Linking}
use Rattle.wit_component.specs.Table.{is_needed, needed}
use Rattle.wit_component.specs.Places.{ImportLink}
use Rattle.wit_component.specs.Meaning.{Spaces, CoreFunction, ComponentFunction, CoreInstance, entry_named, exported, argument_named, if_matches, same_core_type, given_for, all_there, lowering, import_with}
use Rattle.wit_component.specs.Component.{numbered, is_given_under, given_at, given_under, instance_with, argument_for, arguments_for}
use Rattle.wit_component.specs.Right.{IsIn, IsGiven, EachGiven}
use Rattle.wit_component.proofs.Lists.{bytes_eq_refl, bytes_eq_is, same_core_type_refl, slice_get_at, length_one_more, moved, any_in, filter_yes, filter_no, only_one, only_kept}
use Rattle.wit_component.proofs.Entries.{needed_is_asked}
use Rattle.wit_component.proofs.Blocks.{imported_function, lowered_function, entries_of, instance_of}

-- a pair of texts that may stand for a function is one of the two module texts, and the function's name
pub stands_for : (rejects : Bool) (place name function : List ℕ) → is_import_name rejects place name function ≡ true → ((place ≡ root) ⊎ (place ≡ standard)) × (name ≡ function)
stands_for rejects place name function h = elim (or_cases (is_standard_import place name function) (not rejects && is_legacy_import place name function) h) [
  | inl s ↦ let p = and_parts (bytes_eq place standard) (bytes_eq name function) s in (inr (bytes_eq_is place standard p.0), bytes_eq_is name function p.1)
  | inr r ↦ let p = and_parts (bytes_eq place root) (bytes_eq name function) (and_parts (not rejects) (is_legacy_import place name function) r).1 in (inl (bytes_eq_is place root p.0), bytes_eq_is name function p.1)
]

-- the functions that a pair of texts may stand for
abbrev pub may_be : Linking → List ℕ → List ℕ → FunctionItem → Bool
may_be l place name f = is_import_name l.rejects_legacy place name f.name

-- a function stands at that place of a list, of which the first has this one
abbrev pub AtPlace : ℕ → List FunctionItem → FunctionItem → ℕ → Type 0
AtPlace n [] f k = ⊥
AtPlace n (x ∷ xs) f k = ((x ≡ f) × (k ≡ n)) ⊎ AtPlace (suc n) xs f k

-- then so does its import, where the imports of them all stand from this place on
pub imported_at : (n : ℕ) (fs : List FunctionItem) (f : FunctionItem) (k : ℕ) (front : List (Option ComponentFunction)) (back : List (Option ComponentFunction)) (all : List (Option ComponentFunction))
    → AtPlace n fs f k → length front ≡ n → all ≡ front ++ (map imported_function fs ++ back) → slice_get all k ≡ Some (imported_function f)
imported_at n [] f k front back all at long e = absurd at
imported_at n (x ∷ xs) f k front back all (inl (same, here)) long e =
    rw (e, here) (slice_get_at front (imported_function x) (map imported_function xs ++ back) n long ∙ ap (λ (y : FunctionItem). Some (imported_function y)) same)
imported_at n (x ∷ xs) f k front back all (inr later) long e =
    imported_at (suc n) xs f k (front ++ imported_function x ∷ []) back all later (length_one_more front (imported_function x) n long) (moved all front (imported_function x) (map imported_function xs ++ back) e)

-- a function that a pair of texts can't stand for has another name than the one that it stands for
other_name : (l : Linking) (place name : List ℕ) (x f : FunctionItem) → may_be l place name x ≡ false → may_be l place name f ≡ true → name ≡ f.name → bytes_eq name x.name ≡ true → ⊥
other_name l place name x f not_it it same called =
    let is : x.name ≡ f.name = sym (bytes_eq_is name x.name called) ∙ same in
    let passes : may_be l place name x ≡ true = rw is it in
    absurd cc

-- what a name leads to behind another one
entry_behind : (l : Linking) (place name : List ℕ) (cores : List (Option CoreFunction)) (n : ℕ) (x : FunctionItem) (fs : List FunctionItem) (item : Option CoreFunction) → (bytes_eq name x.name ≡ true → ⊥)
    → entry_named name (entries_of cores (flat_map (λ given. given) (numbered (given_at l place) (suc n) fs))) ≡ item
    → entry_named name (entries_of cores (flat_map (λ given. given) (numbered (given_at l place) n (x ∷ fs)))) ≡ item
entry_behind l place name cores n x fs item other later = elim (cases_Bool (is_given_under l place x)) [
  | inl shown ↦ elim (cases_Bool (bytes_eq name x.name)) [ inl called ↦ absurd (other called) | inr called ↦ rw (shown, called) later ]
  | inr shown ↦ rw shown later
]

-- among what is given under a text, an import's name leads to the lowering of its own function
pub entry_found : (l : Linking) (place name : List ℕ) (cores front : List (Option CoreFunction)) (n : ℕ) (f : FunctionItem) (fs : List FunctionItem)
    → length front ≡ n → cores ≡ front ++ numbered lowered_function n fs
    → filter (may_be l place name) fs ≡ f ∷ [] → may_be l place name f ≡ true → is_given_under l place f ≡ true
    → (k : ℕ) × AtPlace n fs f k × (entry_named name (entries_of cores (flat_map (λ given. given) (numbered (given_at l place) n fs))) ≡ lowered_function k f)
entry_found l place name cores front n f [] long e only named given = absurd cc
entry_found l place name cores front n f (x ∷ fs) long e only named given =
    let here : slice_get cores n ≡ Some (lowered_function n x) = rw e (slice_get_at front (lowered_function n x) (numbered lowered_function (suc n) fs) n long) in
    let same_name : name ≡ f.name = (stands_for l.rejects_legacy place name f.name named).1 in
    elim (cases_Bool (may_be l place name x)) [
      | inl t ↦
          let same : x ∷ filter (may_be l place name) fs ≡ f ∷ [] = sym (filter_yes (may_be l place name) x fs t) ∙ only in
          let is : x ≡ f = cc in
          let shown : is_given_under l place x ≡ true = rw is given in
          let called : bytes_eq name x.name ≡ true = rw (is, same_name) (bytes_eq_refl f.name) in
          (n, inl (is, refl), rw (shown, called, here) (ap (lowered_function n) is))
      | inr t ↦
          let rest : filter (may_be l place name) fs ≡ f ∷ [] = sym (filter_no (may_be l place name) x fs t) ∙ only in
          let later = entry_found l place name cores (front ++ lowered_function n x ∷ []) (suc n) f fs (length_one_more front (lowered_function n x) n long) (moved cores front (lowered_function n x) (numbered lowered_function (suc n) fs) e) rest named given in
          (later.0, inr later.1, entry_behind l place name cores n x fs (lowered_function later.0 f) (other_name l place name x f t named same_name) later.2)
    ]

-- what is looked up under a module text and a name, in the instances of two lists of inline exports
abbrev pub looked_up : List (Option CoreFunction) → List InlineExportValue → List InlineExportValue → List ℕ → List ℕ → Option CoreFunction
looked_up cores a b place name =
    option_and_then (λ k. exported (instance_of cores a ++ instance_of cores b) k name) (argument_named (argument_for root 0 a ++ argument_for standard (length (instance_with a)) b) place)

pub looked_up_root : (cores : List (Option CoreFunction)) (a b : List InlineExportValue) (name : List ℕ) (c : CoreFunction) → entry_named name (entries_of cores a) ≡ Some c
    → looked_up cores a b root name ≡ Some c
looked_up_root cores [] b name c h = absurd cc
looked_up_root cores (x ∷ xs) b name c h = h

pub looked_up_standard : (cores : List (Option CoreFunction)) (a b : List InlineExportValue) (name : List ℕ) (c : CoreFunction) → entry_named name (entries_of cores b) ≡ Some c
    → looked_up cores a b standard name ≡ Some c
looked_up_standard cores [] [] name c h = absurd cc
looked_up_standard cores (x ∷ xs) [] name c h = absurd cc
looked_up_standard cores [] (y ∷ ys) name c h = h
looked_up_standard cores (x ∷ xs) (y ∷ ys) name c h = h

-- the lowerings, and the instances that the main module is given
abbrev pub lowerings : Linking → List (Option CoreFunction)
lowerings l = numbered lowered_function 0 (needed l)

abbrev pub instances_given : Linking → List CoreInstance
instances_given l = instance_of (lowerings l) (given_under l root) ++ instance_of (lowerings l) (given_under l standard)

-- and what it is given
abbrev pub given_of : Linking → CoreImport → Option CoreFunction
given_of l = given_for (instances_given l) (arguments_for l)

-- what is of the core type that is asked is given
fits : (t : Option FuncTypeValue) (c : CoreFunction) → t ≡ Some c.ty → same_core_type c.ty c.ty ≡ true → if_matches t (Some c) ≡ Some c
fits t c e same = ap (λ (u : Option FuncTypeValue). if_matches u (Some c)) e ∙ rw same refl

pub given_found : (l : Linking) (i : CoreImport) (f : FunctionItem) → IsIn i l.main.imports → ImportLink l i f
    → (k : ℕ) × AtPlace 0 (needed l) f k × (given_of l i ≡ lowered_function k f)
given_found l i f m h =
    let one = only_one (may_be l i.place i.name) l.world.imports f h.only in
    let names = stands_for l.rejects_legacy i.place i.name f.name one.1 in
    let kept : is_needed l f ≡ true = needed_is_asked l f one.0 ∙ any_in (λ (x : CoreImport). is_import_name l.rejects_legacy x.place x.name f.name) l.main.imports i one.1 m in
    let asked : (bytes_eq i.place i.place && bytes_eq i.name f.name) ≡ true = rw (bytes_eq_refl i.place, names.1) (bytes_eq_refl f.name) in
    let given : is_given_under l i.place f ≡ true = any_in (λ (x : CoreImport). bytes_eq x.place i.place && bytes_eq x.name f.name) l.main.imports i asked m in
    let found = entry_found l i.place i.name (lowerings l) [] 0 f (needed l) refl refl (only_kept (may_be l i.place i.name) (is_needed l) l.world.imports f h.only kept) one.1 given in
    let k = found.0 in
    let c : CoreFunction = lowering k (import_with f.name f.ty) in
    let at = λ (p : List ℕ). looked_up (lowerings l) (given_under l root) (given_under l standard) p i.name ≡ Some c in
    let entry = λ (p : List ℕ). entry_named i.name (entries_of (lowerings l) (given_under l p)) ≡ Some c in
    let looked : at i.place = elim names.0 as (λ _. at i.place) [
      | inl r ↦ subst at (sym r) (looked_up_root (lowerings l) (given_under l root) (given_under l standard) i.name c (subst entry r found.2))
      | inr s ↦ subst at (sym s) (looked_up_standard (lowerings l) (given_under l root) (given_under l standard) i.name c (subst entry s found.2))
    ] in
    (k, found.1, ap (if_matches i.ty) looked ∙ fits i.ty c h.matches (same_core_type_refl (flat f.ty)))

-- all imports are given what is said of each
pub each_given : (l : Linking) (s : Spaces) (g : CoreImport → Option CoreFunction) (is : List CoreImport) → Each (λ i. IsGiven l s i (g i)) is → EachGiven l s is (map g is)
each_given l s g [] h = tt
each_given l s g (i ∷ is) h = (h.0, each_given l s g is h.1)

-- something, each
pub all_given_something : (l : Linking) (s : Spaces) (is : List CoreImport) (given : List (Option CoreFunction)) → EachGiven l s is given → (cs : List CoreFunction) × (given ≡ map (λ c. Some c) cs)
all_given_something l s [] [] h = ([], refl)
all_given_something l s [] (g ∷ given) h = absurd h
all_given_something l s (i ∷ is) [] h = absurd h
all_given_something l s (i ∷ is) (g ∷ given) h =
    let more = all_given_something l s is given h.1 in
    (h.0.core ∷ more.0, λ k. h.0.is k ∷ more.1 k)

pub all_are_there : (cs : List CoreFunction) → all_there (map (λ c. Some c) cs) ≡ true
all_are_there [] = refl
all_are_there (c ∷ cs) = all_are_there cs
