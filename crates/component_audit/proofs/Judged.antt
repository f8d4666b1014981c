-- What the auditor's tests say of a component.
use Rattle.std.proofs.Common.{◌≡◌, ℕ, zero, suc, get_or, ◌≤◌, ◌<◌, arith, Bool, true, false, List, [], ◌∷◌, ◌++◌, length, take, drop, ◌+◌, append_assoc, Option, Some, None, is_some, Any, ◌≢◌, refl, sym, ap, subst, ◌∙◌, inl, inr}
use Rattle.std.specs.Prelude.{map, bytes_eq, option_map, slice_get, string_bytes}
use Rattle.std.specs.Bool.{Decides}
use Rattle.std.specs.List.{AllByRecursion as Each, list_all}
use Rattle.std.proofs.lemmas.Bool.{cases_Bool, and_parts, and_from}
use Rattle.std.proofs.lemmas.List.{append-nil, drop_more, take_more, take-append-drop}
use Rattle.std.proofs.lemmas.Option.{same_Some}
use Rattle.distinct_names.specs.Names.{is_new, all_new}
use Rattle.plain_worlds.specs.World.{FunctionTypeValue}
use Rattle.plain_worlds.specs.declared.world.Function.{Function}
use Rattle.component_audit.specs.declared.spaces.ImportEntry.{ImportEntry as Imported}
use Rattle.component_audit.specs.SpacesView.{import_entry, source, instance, all_given}
use Rattle.plain_worlds.specs.World.{FunctionItem, function_item}
use Rattle.name_places.specs.FirstPlaces.{place_of}
use Rattle.wit_component.specs.Linking.{MainModule, Linking}
use Rattle.wit_component.specs.Meaning as meant
use Rattle.wit_component.specs.declared.finding.FindingKind.TheVariants as findings
use Rattle.wit_component.specs.Table.{is_needed, needed}
use Rattle.wit_component.specs.Meaning.{Spaces, CoreFunction, ImportEntry, all_there, given_by}
use Rattle.wit_component.specs.Right.{IsIn, IsOnce, listed, type_seen, ImportsRight, ExportsRight, ModulesRight, LinksRight, MeetsAll}
use Rattle.component_audit.specs.declared.spaces.CoreInstance.{CoreInstance}
use Rattle.component_audit.specs.Tests.{Finds, IsOutside, function_named, is_type_of, is_listed, is_there}
use Rattle.wit_component.proofs.Lists.{bytes_eq_refl, bytes_eq_is, each_in, each_at, each_map, in_map, from_filter}
use Rattle.component_audit.proofs.Equal.{type_of_function_decides}
use Rattle.wit_component.proofs.NoCause.{any_each}
use Rattle.wit_component.proofs.WrittenNames.{names_of, is_new-append, all_new_without}

-- ---- lists

pub map_in : {X Y : Type 0} (f : X → Y) (xs : List X) (y : Y) → IsIn y (map f xs) → (x : X) × IsIn x xs × (y ≡ f x)
map_in f [] y k = absurd k
map_in f (x ∷ xs) y (inl e) = (x, inl refl, e)
map_in f (x ∷ xs) y (inr k) = let r = map_in f xs y k in (r.0, inr r.1, r.2)

pub list_all_decides : {X : Type 0} (test : X → Bool) (P : X → Type 0) → ((x : X) → Decides (test x) (P x)) → (xs : List X) → Decides (list_all test xs) (Each P xs)
list_all_decides test P each [] = (λ h. tt, λ h. refl)
list_all_decides test P each (x ∷ xs) =
    let rest = list_all_decides test P each xs in
    (λ h. let p = and_parts (test x) (list_all test xs) h in ((each x).0 p.0, rest.0 p.1), λ h. and_from (test x) (list_all test xs) ((each x).1 h.0) (rest.1 h.1))

-- ---- names

unseen : (seen names : List (List ℕ)) (n : List ℕ) → all_new seen names ≡ true → IsIn n names → is_new seen n ≡ true
unseen seen [] n e k = absurd k
unseen seen (m ∷ ms) n e (inl is) = ap (is_new seen) is ∙ (and_parts (is_new seen m) (all_new (seen ++ m ∷ []) ms) e).0
unseen seen (m ∷ ms) n e (inr k) =
    let later = unseen (seen ++ m ∷ []) ms n (and_parts (is_new seen m) (all_new (seen ++ m ∷ []) ms) e).1 k in
    (and_parts (is_new seen n) (is_new (m ∷ []) n) (sym (is_new-append seen (m ∷ []) n) ∙ later)).0

apart : (n m : List ℕ) → is_new (m ∷ []) n ≡ true → bytes_eq n m ≡ false
apart n m e = elim (cases_Bool (bytes_eq n m)) [
  | inl t ↦ let bad : is_new (m ∷ []) n ≡ false = rw t refl in absurd cc
  | inr t ↦ t
]

pub named_is : (name : List ℕ) (fs : List FunctionItem) (f : FunctionItem) → function_named name fs ≡ Some f → (f.name ≡ name) × IsIn f fs
named_is name [] f h = absurd cc
named_is name (g ∷ fs) f h = elim (cases_Bool (bytes_eq name g.name)) [
  | inl t ↦
      let here : function_named name (g ∷ fs) ≡ Some g = rw t refl in
      let is : f ≡ g = same_Some f g (sym h ∙ here) in
      (ap (λ (x : FunctionItem). x.name) is ∙ sym (bytes_eq_is name g.name t), inl is)
  | inr t ↦
      let there : function_named name (g ∷ fs) ≡ function_named name fs = rw t refl in
      let r = named_is name fs f (sym there ∙ h) in
      (r.0, inr r.1)
]

pub named_in : (fs : List FunctionItem) → all_new [] (names_of fs) ≡ true → (f : FunctionItem) → IsIn f fs → function_named f.name fs ≡ Some f
named_in [] e f k = absurd k
named_in (g ∷ fs) e f (inl is) = ap (λ (x : FunctionItem). function_named x.name (g ∷ fs)) is ∙ (rw (bytes_eq_refl g.name) refl ∙ ap (λ (x : FunctionItem). Some x) (sym is))
named_in (g ∷ fs) e f (inr k) =
    let others = (and_parts (is_new [] g.name) (all_new (g.name ∷ []) (names_of fs)) e).1 in
    let other = apart f.name g.name (unseen (g.name ∷ []) (names_of fs) f.name others (in_map (λ (x : FunctionItem). x.name) fs f k)) in
    let there : function_named f.name (g ∷ fs) ≡ function_named f.name fs = rw other refl in
    there ∙ named_in fs (all_new_without [] g.name (names_of fs) others) f k

-- distinct names: one function of a name
pub one_of_name : (fs : List FunctionItem) → all_new [] (names_of fs) ≡ true → (f g : FunctionItem) → IsIn f fs → IsIn g fs → f.name ≡ g.name → f ≡ g
one_of_name fs e f g k m same = same_Some f g (sym (named_in fs e f k) ∙ (ap (λ n. function_named n fs) same ∙ named_in fs e g m))

-- ---- what a world lists

listed_by : (f : Option FunctionItem) (t : Option FunctionTypeValue) → is_type_of f t ≡ true → (g : FunctionItem) × (f ≡ Some g) × (t ≡ Some g.ty)
listed_by None t h = absurd cc
listed_by (Some f) None h = absurd cc
listed_by (Some f) (Some t) h = (f, refl, ap (λ (x : FunctionTypeValue). Some x) (sym ((type_of_function_decides f.ty t).0 h)))

-- the names of entries
abbrev pub names_there : List ImportEntry → List (List ℕ)
names_there es = map (λ (e : ImportEntry). e.name) es

module _ (fs : List FunctionItem) (distinct : all_new [] (names_of fs) ≡ true) where
  -- a listed entry is the function of its name
  pub listed_is : (e : ImportEntry) → is_listed fs e ≡ true → (f : FunctionItem) × (function_named e.name fs ≡ Some f) × (e ≡ listed f)
  listed_is e h =
      let by = listed_by (function_named e.name fs) e.item h in
      let is = named_is e.name fs by.0 by.1 in
      (by.0, by.1, λ i. record { name = sym is.0 i; item = by.2 i })

  pub listed_decides : (e : ImportEntry) → Decides (is_listed fs e) (IsIn e (map listed fs))
  listed_decides e = (
    λ h. let by = listed_is e h in subst (λ (x : ImportEntry). IsIn x (map listed fs)) (sym by.2) (in_map listed fs by.0 (named_is e.name fs by.0 by.1).1),
    λ k. let from = map_in listed fs e k in
        ap (is_listed fs) from.2 ∙ (ap (λ o. is_type_of o (Some from.0.ty)) (named_in fs distinct from.0 from.1) ∙ (type_of_function_decides from.0.ty from.0.ty).1 refl),
  )

  -- ---- what is there

  -- where all entries are listed, one of a function's name is the function's
  pub there_is : (es : List ImportEntry) → Each (λ e. IsIn e (map listed fs)) es → (f : FunctionItem) → IsIn f fs → IsIn f.name (names_there es) → IsIn (listed f) es
  there_is es all f k there =
      let at = map_in (λ (e : ImportEntry). e.name) es f.name there in
      let from = map_in listed fs at.0 (each_at (λ e. IsIn e (map listed fs)) es at.0 all at.1) in
      let same : from.0 ≡ f = one_of_name fs distinct from.0 f from.1 k (sym (ap (λ (e : ImportEntry). e.name) from.2) ∙ sym at.2) in
      subst (λ (e : ImportEntry). IsIn e es) (from.2 ∙ ap listed same) at.1

later : (p : Option ℕ) → is_some (option_map suc p) ≡ is_some p
later None = refl
later (Some p) = refl

next_place : (p : Option ℕ) (k : ℕ) → Some k ≡ option_map suc p → (j : ℕ) × (k ≡ suc j) × (Some j ≡ p)
next_place None k e = absurd cc
next_place (Some j) k e = (j, same_Some k (suc j) e, refl)

no_next : (p : Option ℕ) → None ≡ option_map suc p → None ≡ p
no_next None e = refl
no_next (Some j) e = absurd cc

pub place_decides : (name : List ℕ) (names : List (List ℕ)) → Decides (is_some (place_of name names)) (IsIn name names)
place_decides name [] = (λ h. absurd cc, λ k. absurd k)
place_decides name (n ∷ ns) = elim (cases_Bool (bytes_eq name n)) [
  | inl t ↦ (λ h. inl (bytes_eq_is name n t), λ k. rw t refl)
  | inr t ↦
      let rest = place_decides name ns in
      let same : is_some (place_of name (n ∷ ns)) ≡ is_some (place_of name ns) = rw t (later (place_of name ns)) in (
        λ h. inr (rest.0 (sym same ∙ h)),
        λ k. elim k [ inl e ↦ (let here : bytes_eq name n ≡ true = ap (bytes_eq name) (sym e) ∙ bytes_eq_refl name in absurd cc) | inr m ↦ same ∙ rest.1 m ],
      )
]

pub named_at : (name : List ℕ) (fs : List FunctionItem) (k : ℕ) → Some k ≡ place_of name (names_of fs) → slice_get fs k ≡ function_named name fs
named_at name [] k e = absurd cc
named_at name (f ∷ fs) k e = elim (cases_Bool (bytes_eq name f.name)) [
  | inl t ↦
      let here : place_of name (names_of (f ∷ fs)) ≡ Some 0 = rw t refl in
      let is : k ≡ 0 = same_Some k 0 (e ∙ here) in
      let named : function_named name (f ∷ fs) ≡ Some f = rw t refl in
      ap (slice_get (f ∷ fs)) is ∙ sym named
  | inr t ↦
      let there : place_of name (names_of (f ∷ fs)) ≡ option_map suc (place_of name (names_of fs)) = rw t refl in
      let named : function_named name (f ∷ fs) ≡ function_named name fs = rw t refl in
      let one = next_place (place_of name (names_of fs)) k (e ∙ there) in
      ap (slice_get (f ∷ fs)) one.1 ∙ (named_at name fs one.0 one.2 ∙ sym named)
]

pub named_there : (name : List ℕ) (fs : List FunctionItem) (k : ℕ) → Some k ≡ place_of name (names_of fs) → (f : FunctionItem) × (function_named name fs ≡ Some f)
named_there name [] k e = absurd cc
named_there name (f ∷ fs) k e = elim (cases_Bool (bytes_eq name f.name)) [
  | inl t ↦ (f, rw t refl)
  | inr t ↦
      let there : place_of name (names_of (f ∷ fs)) ≡ option_map suc (place_of name (names_of fs)) = rw t refl in
      let named : function_named name (f ∷ fs) ≡ function_named name fs = rw t refl in
      let one = next_place (place_of name (names_of fs)) k (e ∙ there) in
      let rest = named_there name fs one.0 one.2 in
      (rest.0, named ∙ rest.1)
]

pub named_nowhere : (name : List ℕ) (fs : List FunctionItem) → None ≡ place_of name (names_of fs) → None ≡ function_named name fs
named_nowhere name [] e = refl
named_nowhere name (f ∷ fs) e = elim (cases_Bool (bytes_eq name f.name)) [
  | inl t ↦ (let here : place_of name (names_of (f ∷ fs)) ≡ Some 0 = rw t refl in let bad = e ∙ here in absurd cc)
  | inr t ↦
      let there : place_of name (names_of (f ∷ fs)) ≡ option_map suc (place_of name (names_of fs)) = rw t refl in
      let named : function_named name (f ∷ fs) ≡ function_named name fs = rw t refl in
      named_nowhere name fs (no_next (place_of name (names_of fs)) (e ∙ there)) ∙ sym named
]

-- ---- the views of names

names_are : (fs : List Function) → map (λ f. string_bytes f.name) fs ≡ names_of (map function_item fs)
names_are [] = refl
names_are (f ∷ fs) = ap (λ (ns : List (List ℕ)). string_bytes f.name ∷ ns) (names_are fs)

pub places_named : (fs : List Function) (name : List ℕ) (places : List (List ℕ)) → places ≡ map (λ f. string_bytes f.name) fs → place_of name places ≡ place_of name (names_of (map function_item fs))
places_named fs name places e = ap (place_of name) (e ∙ names_are fs)

entry_names_are : (es : List Imported) → map (λ e. e.name.now) es ≡ names_there (map import_entry es)
entry_names_are [] = refl
entry_names_are (e ∷ es) = ap (λ (ns : List (List ℕ)). e.name.now ∷ ns) (entry_names_are es)

pub names_seen : (es : List Imported) (names : List (List ℕ)) (some : List FunctionItem) → names ≡ map (λ e. e.name.now) es → list_all (is_there names) some ≡ list_all (is_there (names_there (map import_entry es))) some
names_seen es names some e = ap (λ ns. list_all (is_there ns) some) (e ∙ entry_names_are es)

-- ---- one side of the outside

module _ (fs : List FunctionItem) (distinct : all_new [] (names_of fs) ≡ true) (some : List FunctionItem) (among : (f : FunctionItem) → IsIn f some → IsIn f fs) (es : List ImportEntry) where
  known_of : Each (λ e. is_listed fs e ≡ true) es → Each (λ e. IsIn e (map listed fs)) es
  known_of h = each_in (λ e. IsIn e (map listed fs)) es (λ e m. (listed_decides fs distinct e).0 (each_at (λ x. is_listed fs x ≡ true) es e h m))

  known_to : Each (λ e. IsIn e (map listed fs)) es → Each (λ e. is_listed fs e ≡ true) es
  known_to h = each_in (λ e. is_listed fs e ≡ true) es (λ e m. (listed_decides fs distinct e).1 (each_at (λ x. IsIn x (map listed fs)) es e h m))

  there_of : Each (λ e. IsIn e (map listed fs)) es → list_all (is_there (names_there es)) some ≡ true → Each (λ f. IsIn (listed f) es) some
  there_of known all = each_in (λ f. IsIn (listed f) es) some (λ f m.
      let there = each_at (λ x. is_there (names_there es) x ≡ true) some f ((list_all_decides (is_there (names_there es)) (λ x. is_there (names_there es) x ≡ true) (λ x. (λ h. h, λ h. h)) some).0 all) m in
      there_is fs distinct es known f (among f m) ((place_decides f.name (names_there es)).0 there))

  there_to : Each (λ f. IsIn (listed f) es) some → list_all (is_there (names_there es)) some ≡ true
  there_to h = (list_all_decides (is_there (names_there es)) (λ x. is_there (names_there es) x ≡ true) (λ x. (λ y. y, λ y. y)) some).1 (each_in (λ f. is_there (names_there es) f ≡ true) some (λ f m.
      (place_decides f.name (names_there es)).1 (in_map (λ (e : ImportEntry). e.name) es (listed f) (each_at (λ x. IsIn (listed x) es) some f h m))))

  pub outside_is : Each (λ e. is_listed fs e ≡ true) es → list_all (is_there (names_there es)) some ≡ true → IsOutside fs some es
  outside_is known all = record { known = known_of known; there = there_of (known_of known) all }

  pub not_known : (Each (λ e. is_listed fs e ≡ true) es → ⊥) → IsOutside fs some es → ⊥
  not_known refuted h = refuted (known_to h.known)

  pub not_there : list_all (is_there (names_there es)) some ≡ false → IsOutside fs some es → ⊥
  not_there absent h = let bad : true ≡ false = sym (there_to h.there) ∙ absent in absurd cc

-- ---- what a test finds of one fact, it finds of another that says the same

pub finds_same : (n : ℕ) (P Q : Type 0) → (P → Q) → (Q → P) → (o : Option ℕ) → Finds n P o → Finds n Q o
finds_same n P Q to from None h = to h
finds_same n P Q to from (Some k) h = (h.0, λ q. h.1 (from q))

-- ---- the conditions

pub needed_among : (l : Linking) (f : FunctionItem) → IsIn f (needed l) → IsIn f l.world.imports
needed_among l f m = (from_filter (is_needed l) l.world.imports f m).0

pub imports_same : (l : Linking) (s : Spaces) (n : ℕ) (o : Option ℕ) → Finds n (IsOutside l.world.imports (needed l) s.imports) o → Finds n (ImportsRight l s) o
imports_same l s n o = finds_same n (IsOutside l.world.imports (needed l) s.imports) (ImportsRight l s) (λ h. record { needed = h.there; listed = h.known }) (λ h. record { known = h.listed; there = h.needed }) o

pub exports_same : (l : Linking) (s : Spaces) (n : ℕ) (o : Option ℕ) → Finds n (IsOutside l.world.exports l.world.exports (map type_seen s.exports)) o → Finds n (ExportsRight l s) o
exports_same l s n o =
    let fs = l.world.exports in
    let es = map type_seen s.exports in
    finds_same n (IsOutside fs fs es) (ExportsRight l s)
    (λ h. record { each = h.known; only = each_map (λ y. IsIn y es) listed fs (λ f m. each_at (λ g. IsIn (listed g) es) fs f h.there m) })
    (λ h. record { known = h.each; there = each_in (λ f. IsIn (listed f) es) fs (λ f m. each_at (λ y. IsIn y es) (map listed fs) (listed f) h.only (in_map listed fs f m)) }) o

-- ---- one instance, which is given all that it asks

-- something for each
pub somethings : (g : List (Option CoreFunction)) → all_there g ≡ true → (cs : List CoreFunction) × (g ≡ map (λ c. Some c) cs)
somethings [] h = ([], refl)
somethings (None ∷ g) h = absurd cc
somethings (Some c ∷ g) h = let more = somethings g h in (c ∷ more.0, ap (λ (l : List (Option CoreFunction)). Some c ∷ l) more.1)

something_there : (cs : List CoreFunction) → all_there (map (λ c. Some c) cs) ≡ true
something_there [] = refl
something_there (c ∷ cs) = something_there cs

pub once_of : (all : List (List (Option CoreFunction))) (g : List (Option CoreFunction)) → all ≡ g ∷ [] → all_there g ≡ true → IsOnce all
once_of all g is there = let cs = somethings g there in (cs.0, is ∙ ap (λ (l : List (Option CoreFunction)). l ∷ []) cs.1)

pub not_whole : (all more : List (List (Option CoreFunction))) (g : List (Option CoreFunction)) → all ≡ g ∷ more → all_there g ≡ false → IsOnce all → ⊥
not_whole all more g is lacks once =
    let same : g ∷ more ≡ map (λ c. Some c) once.0 ∷ [] = sym is ∙ once.1 in
    let whole : g ≡ map (λ c. Some c) once.0 = cc in
    let bad : true ≡ false = sym (ap all_there whole ∙ something_there once.0) ∙ lacks in
    absurd cc

pub more_than_one : (all front more : List (List (Option CoreFunction))) (g : List (Option CoreFunction)) → IsOnce front → all ≡ front ++ g ∷ more → IsOnce all → ⊥
more_than_one all front more g first is once =
    let same : map (λ c. Some c) first.0 ∷ (g ∷ more) ≡ map (λ c. Some c) once.0 ∷ [] = sym (is ∙ ap (λ (l : List (List (Option CoreFunction))). l ++ g ∷ more) first.1) ∙ once.1 in
    absurd cc

pub never : (all : List (List (Option CoreFunction))) → all ≡ [] → IsOnce all → ⊥
never all is once = let same : [] ≡ map (λ c. Some c) once.0 ∷ [] = sym is ∙ once.1 in absurd cc

given_append : (xs ys : List CoreInstance) → all_given (xs ++ ys) ≡ all_given xs ++ all_given ys
given_append [] ys = refl
given_append (x ∷ xs) ys = ap (λ l. given_by (source x) ++ l) (given_append xs ys) ∙ sym (append_assoc (given_by (source x)) (all_given xs) (all_given ys))

-- at a place in a list of instances
module _ (is : List CoreInstance) (k : ℕ) (i : CoreInstance) (lt : k < length is) (read : i ≡ get_or is k i) where
  split : is ≡ take k is ++ i ∷ drop (k + 1) is
  split = sym (take-append-drop k is) ∙ ap (λ l. take k is ++ l) (drop_more is k i lt ∙ ap (λ (x : CoreInstance). x ∷ drop (k + 1) is) (sym read))

  pub given_here : all_given is ≡ all_given (take k is) ++ (given_by (source i) ++ all_given (drop (k + 1) is))
  given_here = ap all_given split ∙ given_append (take k is) (i ∷ drop (k + 1) is)

  pub within_here : (p : CoreInstance → Bool) → list_all p (drop k is) ≡ true → (p i ≡ true) × (list_all p (drop (k + 1) is) ≡ true)
  within_here p h =
      let here : drop k is ≡ i ∷ drop (k + 1) is = drop_more is k i lt ∙ ap (λ (x : CoreInstance). x ∷ drop (k + 1) is) (sym read) in
      and_parts (p i) (list_all p (drop (k + 1) is)) (sym (ap (list_all p) here) ∙ h)

  pub given_up_to : all_given (take (k + 1) is) ≡ all_given (take k is) ++ given_by (source i)
  given_up_to =
      ap all_given (take_more is k i lt ∙ ap (λ (x : CoreInstance). take k is ++ x ∷ []) (sym read)) ∙ given_append (take k is) (i ∷ [])
      ∙ ap (λ l. all_given (take k is) ++ l) (append-nil (given_by (source i)))

-- what holds of each holds of the one at a place
pub each_here : {A X : Type 0} (view : A → X) (P : X → Type 0) (xs : List A) (i : ℕ) (a : A) → i < length xs → a ≡ get_or xs i a → Each P (map view xs) → P (view a)
each_here view P [] i a lt is h = absurd (omega arith)
each_here view P (x ∷ xs) zero a lt is h = subst (λ y. P (view y)) (sym is) h.0
each_here view P (x ∷ xs) (suc i) a lt is h = each_here view P xs i a (omega arith) is h.1

-- ---- what was found

pub met : (n : ℕ) (P : Type 0) (o : Option ℕ) → Finds n P o → o ≡ None → P
met n P None h e = h
met n P (Some k) h e = absurd cc

pub failed : (n : ℕ) (P : Type 0) (o : Option ℕ) (k : ℕ) → Finds n P o → o ≡ Some k → (k ≤ n) × (P → ⊥)
failed n P None k h e = absurd cc
failed n P (Some j) k h e = subst (λ i. (i ≤ n) × (P → ⊥)) (same_Some j k e) h

-- the core modules
pub handed_is : (main : List ℕ) (ms : List (List ℕ)) → list_all (λ m. bytes_eq m main) ms ≡ true → Each (λ m. m ≡ main) ms
handed_is main [] h = tt
handed_is main (m ∷ ms) h = let p = and_parts (bytes_eq m main) (list_all (λ x. bytes_eq x main) ms) h in (bytes_eq_is m main p.0, handed_is main ms p.1)

pub not_handed : (main : List ℕ) (ms : List (List ℕ)) → list_all (λ m. bytes_eq m main) ms ≡ false → Any (λ m. m ≢ main) ms
not_handed main [] h = absurd cc
not_handed main (m ∷ ms) h = elim (cases_Bool (bytes_eq m main)) [
  | inl t ↦
      let rest : list_all (λ x. bytes_eq x main) ms ≡ false = rw t at h in
      let later = not_handed main ms rest in
      (suc later.0, later.1, omega (arith, later.2), later.3, later.4)
  | inr t ↦ (0, m, omega arith, refl, λ e. let bad : true ≡ false = sym (ap (λ x. bytes_eq x main) e ∙ bytes_eq_refl main) ∙ t in absurd cc)
]

pub none_other : (main : List ℕ) (ms : List (List ℕ)) → Each (λ m. m ≡ main) ms → Any (λ m. m ≢ main) ms → ⊥
none_other main ms each other = let at = any_each (λ m. m ≡ main) (λ m. m ≢ main) ms each other in at.2 at.1

pub exports_found : (l : Linking) (s : Spaces) (n : ℕ) (fs : List FunctionItem) → fs ≡ l.world.exports → (o : Option ℕ) → Finds n (IsOutside fs fs (map type_seen s.exports)) o → Finds n (ExportsRight l s) o
exports_found l s n fs same o h = exports_same l s n o (subst (λ gs. Finds n (IsOutside gs gs (map type_seen s.exports)) o) same h)

-- ---- all conditions

pub given_seen : (main : MainModule) (is : List CoreInstance) → all_given is ≡ meant.all_given (map (instance main) is)
given_seen main [] = refl
given_seen main (i ∷ is) = ap (λ l. given_by (source i) ++ l) (given_seen main is)

pub meets_all : (l : Linking) (s : Spaces) → ModulesRight l s → ImportsRight l s → ExportsRight l s → LinksRight l s → MeetsAll l s
meets_all l s modules imports exports links findings.Format = tt
meets_all l s modules imports exports links findings.Import = imports
meets_all l s modules imports exports links findings.Export = exports
meets_all l s modules imports exports links findings.Module = modules
meets_all l s modules imports exports links findings.Link = links
meets_all l s modules imports exports links findings.Fill = tt
meets_all l s modules imports exports links findings.SlotReach = tt
meets_all l s modules imports exports links findings.Name = tt
