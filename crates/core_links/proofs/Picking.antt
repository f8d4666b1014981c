-- What is picked of lists by marks, and that it is what core imports need.
use Rattle.std.proofs.Common.{◌≡◌, ℕ, zero, suc, ◌+◌, ◌<◌, ◌≤◌, Bool, true, false, if◌then◌else◌, List, [], ◌∷◌, ◌++◌, length, map, take, Option, Some, None, String, ◌⊎◌, inl, inr, refl, sym, subst, ap, ◌∙◌, arith, add-one}
use Rattle.std.proofs.lemmas.List.{length-append}
use Rattle.std.proofs.lemmas.List.Concat.{flat_map-append}
use Rattle.std.proofs.lemmas.Option.{same_Some, slice_get_within}
use Rattle.std.specs.Prelude.{slice_get, option_map, option_to_list, Vec}
use Rattle.std.specs.declared.alloc.Global.{Global}
use Rattle.wasm_types.specs.Entries.{ImportValue}
use Rattle.wit_order.specs.Order.{Has}
use Rattle.wit_types.specs.declared.function.Function.{Function}
use Rattle.wit_types.specs.declared.interface.Interface.{Interface}
use Rattle.wit_types.specs.declared.world.WorldItem.{WorldItem}
use Rattle.wit_types.specs.declared.world.WorldItem.TheVariants as item
use Rattle.wit_types.specs.declared.world_key.WorldKey.{WorldKey}
use Rattle.wit_core_names.specs.Items.{CoreImport}
use Rattle.wit_core_names.specs.Texts.{Known}
use Rattle.wit_core_names.specs.declared.items.ResourceIntrinsic.{ResourceIntrinsic}
use Rattle.wit_core_names.specs.declared.items.ResourceIntrinsic.TheVariants.{ImportedDrop}
use Rattle.wit_core_items.specs.Places.{Entry, own_function, function_of, function_in}
use Rattle.wit_core_items.specs.ImportPlaces.{import_of_function, own_import, interface_import, import_at}
use Rattle.wit_core_items.specs.World.{core_imports}
use Rattle.wit_core_items.specs.declared.import_places.ImportPlace.{ImportPlace}
use Rattle.wit_core_items.specs.declared.import_places.ImportPlace.TheVariants.{OwnFunction, InterfaceFunction, OwnDrop, InterfaceDrop, ExportedIntrinsic}
use Rattle.core_links.specs.Names.{Names}
use Rattle.core_links.specs.Imports.{IsMeaning, StandsFor, StandsAt}
use Rattle.core_links.specs.Marks.{is_marked, marks_of, is_marked_in, picked, picked_one, IsInterfaceAt, IsMarked, AreMarksOf, ArePicked}
use Rattle.core_links.specs.Needed.{IsPartOf, empty, with_it, without, own_functions, functions_of, IsKeyOf, IsNeeded, AreOwnNeeded, AreLinkedNeeded}

-- ---- lists

get_mapped : {X Y : Type 0} (g : X → Y) (xs : List X) (k : ℕ) → slice_get (map g xs) k ≡ option_map g (slice_get xs k)
get_mapped g [] k = refl
get_mapped g (x ∷ xs) zero = refl
get_mapped g (x ∷ xs) (suc k) = get_mapped g xs k

pub there : {X : Type 0} (xs : List X) (k : ℕ) → k < length xs → (x : X) × (slice_get xs k ≡ Some x)
there [] k within = absurd (omega (arith, within))
there (x ∷ xs) zero within = (x, refl)
there (x ∷ xs) (suc k) within = there xs k (omega (arith, within))

-- ---- picking

take_step : {X : Type 0} (xs : List X) (k : ℕ) (x : X) → slice_get xs k ≡ Some x → take (suc k) xs ≡ take k xs ++ x ∷ []
take_step [] k x at = absurd cc
take_step (y ∷ xs) zero x at = (let e : y ≡ x = same_Some y x at in ap (λ (z : _). z ∷ []) e)
take_step (y ∷ xs) (suc k) x at = ap (λ (l : List _). y ∷ l) (take_step xs k x at)

pub take_next : {X : Type 0} (xs : List X) (k : ℕ) (x : X) → slice_get xs k ≡ Some x → take (k + 1) xs ≡ take k xs ++ x ∷ []
take_next xs k x at = subst (λ (n : ℕ). take n xs ≡ take k xs ++ x ∷ []) (sym (add-one k)) (take_step xs k x at)

picked_append : {X : Type 0} (test : ℕ → Bool) (xs : List X) (x : X) → picked test (xs ++ x ∷ []) ≡ picked test xs ++ picked_one (test (length xs)) (Some x)
picked_append test [] x = by (test zero)
  where
    by : (b : Bool) → (if b then x ∷ [] else []) ≡ [] ++ (if b then x ∷ [] else [])
    by true = refl
    by false = refl
picked_append test (y ∷ xs) x =
    (let rest = picked_append (λ k. test (suc k)) xs x in by (test zero) rest)
  where
    by : (b : Bool) → picked (λ k. test (suc k)) (xs ++ x ∷ []) ≡ picked (λ k. test (suc k)) xs ++ picked_one (test (suc (length xs))) (Some x)
        → (if b then y ∷ picked (λ k. test (suc k)) (xs ++ x ∷ []) else picked (λ k. test (suc k)) (xs ++ x ∷ [])) ≡ (if b then y ∷ picked (λ k. test (suc k)) xs else picked (λ k. test (suc k)) xs) ++ picked_one (test (suc (length xs))) (Some x)
    by true e = ap (λ (l : List _). y ∷ l) e
    by false e = e

take_long : {X : Type 0} (xs : List X) (k : ℕ) (x : X) → slice_get xs k ≡ Some x → length (take k xs) ≡ k
take_long [] k x at = absurd cc
take_long (y ∷ xs) zero x at = refl
take_long (y ∷ xs) (suc k) x at = (let e = take_long xs k x at in omega (arith, e))

-- one more of them
pub picked_next : {X : Type 0} (test : ℕ → Bool) (xs : List X) (k : ℕ) (x : X) → slice_get xs k ≡ Some x → picked test (take (k + 1) xs) ≡ picked test (take k xs) ++ picked_one (test k) (slice_get xs k)
picked_next test xs k x at =
    ap (picked test) (take_next xs k x at) ∙ picked_append test (take k xs) x
    ∙ ap (λ (n : ℕ). picked test (take k xs) ++ picked_one (test n) (Some x)) (take_long xs k x at) ∙ ap (λ (o : Option _). picked test (take k xs) ++ picked_one (test k) o) (sym at)

pub has_picked : {X : Type 0} (test : ℕ → Bool) (xs : List X) (x : X) → Has (picked test xs) x → (k : ℕ) × (slice_get xs k ≡ Some x) × (test k ≡ true)
has_picked test [] x h = absurd h
has_picked {X} test (y ∷ xs) x h = by (λ g. let r = has_picked (λ k. test (suc k)) xs x g in (suc r.0, r.1, r.2)) (test zero) refl h
  where
    by : (Has (picked (λ k. test (suc k)) xs) x → (k : ℕ) × (slice_get (y ∷ xs) k ≡ Some x) × (test k ≡ true))
        → (b : Bool) → test zero ≡ b → Has (if b then y ∷ picked (λ k. test (suc k)) xs else picked (λ k. test (suc k)) xs) x → (k : ℕ) × (slice_get (y ∷ xs) k ≡ Some x) × (test k ≡ true)
    by later true e (inl here) = (zero, ap (λ (z : X). Some z) (sym here), e)
    by later true e (inr at) = later at
    by later false e g = later g

pub picked_has : {X : Type 0} (test : ℕ → Bool) (xs : List X) (k : ℕ) (x : X) → slice_get xs k ≡ Some x → test k ≡ true → Has (picked test xs) x
picked_has test [] k x at is = absurd cc
picked_has {X} test (y ∷ xs) zero x at is = subst (λ (b : Bool). Has (if b then y ∷ picked (λ k. test (suc k)) xs else picked (λ k. test (suc k)) xs) x) (sym is) (inl (sym (same_Some y x at)))
picked_has {X} test (y ∷ xs) (suc k) x at is = by (picked_has (λ j. test (suc j)) xs k x at is) (test zero)
  where
    by : Has (picked (λ j. test (suc j)) xs) x → (b : Bool) → Has (if b then y ∷ picked (λ j. test (suc j)) xs else picked (λ j. test (suc j)) xs) x
    by later true = inr later
    by later false = later

pub picked_part : {X : Type 0} (test : ℕ → Bool) (xs : List X) → IsPartOf (picked test xs) xs
picked_part test [] = empty
picked_part test (y ∷ xs) = by (picked_part (λ k. test (suc k)) xs) (test zero)
  where
    by : IsPartOf (picked (λ k. test (suc k)) xs) xs → (b : Bool) → IsPartOf (if b then y ∷ picked (λ k. test (suc k)) xs else picked (λ k. test (suc k)) xs) (y ∷ xs)
    by rest true = with_it y (picked (λ k. test (suc k)) xs) xs rest
    by rest false = without y (picked (λ k. test (suc k)) xs) xs rest

has_at : {X : Type 0} (xs : List X) (k : ℕ) (x : X) → slice_get xs k ≡ Some x → Has xs x
has_at [] k x at = absurd cc
has_at (y ∷ xs) zero x at = inl (sym (same_Some y x at))
has_at (y ∷ xs) (suc k) x at = inr (has_at xs k x at)

-- ---- functions of the world itself

kept_front : {X : Type 0} (zs xs ys : List X) → IsPartOf xs ys → IsPartOf (zs ++ xs) (zs ++ ys)
kept_front [] xs ys p = p
kept_front (z ∷ zs) xs ys p = with_it z (zs ++ xs) (zs ++ ys) (kept_front zs xs ys p)

left_front : {X : Type 0} (zs xs ys : List X) → IsPartOf xs ys → IsPartOf xs (zs ++ ys)
left_front [] xs ys p = p
left_front (z ∷ zs) xs ys p = without z xs (zs ++ ys) (left_front zs xs ys p)

own_part : (xs ys : List Entry) → IsPartOf xs ys → IsPartOf (own_functions xs) (own_functions ys)
own_part _ _ empty = empty
own_part _ _ (with_it x xs ys p) = kept_front (option_to_list (own_function x.1)) (own_functions xs) (own_functions ys) (own_part xs ys p)
own_part _ _ (without y xs ys p) = left_front (option_to_list (own_function y.1)) (own_functions xs) (own_functions ys) (own_part xs ys p)

has_here : (o : Option Function) (fs : List Function) (f : Function) → o ≡ Some f → Has (option_to_list o ++ fs) f
has_here None fs f e = absurd cc
has_here (Some g) fs f e = inl (sym (same_Some g f e))

has_later : (o : Option Function) (fs : List Function) (f : Function) → Has fs f → Has (option_to_list o ++ fs) f
has_later None fs f h = h
has_later (Some g) fs f h = inr h

own_has : (es : List Entry) (e : Entry) (f : Function) → Has es e → own_function e.1 ≡ Some f → Has (own_functions es) f
own_has [] e f h is = absurd h
own_has (d ∷ es) e f (inl here) is = has_here (own_function d.1) (own_functions es) f (ap (λ (x : Entry). own_function x.1) (sym here) ∙ is)
own_has (d ∷ es) e f (inr later) is = has_later (own_function d.1) (own_functions es) f (own_has es e f later is)

has_split : (o : Option Function) (fs : List Function) (f : Function) → Has (option_to_list o ++ fs) f → (o ≡ Some f) ⊎ Has fs f
has_split None fs f h = inr h
has_split (Some g) fs f (inl here) = inl (ap (λ (x : Function). Some x) (sym here))
has_split (Some g) fs f (inr later) = inr later

has_own : (es : List Entry) (f : Function) → Has (own_functions es) f → (e : Entry) × Has es e × (own_function e.1 ≡ Some f)
has_own [] f h = absurd h
has_own (d ∷ es) f h = elim (has_split (own_function d.1) (own_functions es) f h) as (λ _. (e : Entry) × Has (d ∷ es) e × (own_function e.1 ≡ Some f)) [
  | inl here ↦ (d, inl refl, here)
  | inr later ↦ (let r = has_own es f later in (r.0, inr r.1, r.2))
]

-- with one entry more
pub own_next : (test : ℕ → Bool) (es : List Entry) (k : ℕ) → k < length es
    → own_functions (picked test (take k es)) ++ own_functions (picked_one (test k) (slice_get es k)) ≡ own_functions (picked test (take (k + 1) es))
own_next test es k within =
    let (e, at) = there es k within in
    sym (flat_map-append (λ (d : Entry). option_to_list (own_function d.1)) (picked test (take k es)) (picked_one (test k) (slice_get es k))) ∙ ap own_functions (sym (picked_next test es k e at))

-- ---- functions of interfaces

-- with one function more
pub linked_next : (test : ℕ → Bool) (d : Interface) (k : ℕ) → k < length d.functions.entries
    → picked test (take k (functions_of d)) ++ picked_one (test k) (option_map (λ (e : String Global × Function). e.1) (slice_get d.functions.entries k)) ≡ picked test (take (k + 1) (functions_of d))
linked_next test d k within =
    let (e, at) = there d.functions.entries k within in
    let same = get_mapped (λ (x : String Global × Function). x.1) d.functions.entries k in
    let here : slice_get (functions_of d) k ≡ Some e.1 = same ∙ ap (option_map (λ (x : String Global × Function). x.1)) at in
    ap (λ (o : Option Function). picked test (take k (functions_of d)) ++ picked_one (test k) o) (sym same) ∙ sym (picked_next test (functions_of d) k e.1 here)

pub none_picked : (all : List (Vec Bool Global)) → ArePicked [] all []
none_picked all = record { so_many = refl; each = λ id d fs at at_fs. absurd cc }

get_last : {X : Type 0} (xs : List X) (x : X) (k : ℕ) (y : X) → slice_get (xs ++ x ∷ []) k ≡ Some y → (slice_get xs k ≡ Some y) ⊎ ((k ≡ length xs) × (x ≡ y))
get_last [] x zero y at = inr (refl, same_Some x y at)
get_last [] x (suc k) y at = absurd cc
get_last (z ∷ xs) x zero y at = inl at
get_last (z ∷ xs) x (suc k) y at = elim (get_last xs x k y at) [ inl was ↦ inl was | inr last ↦ inr (ap (λ (n : ℕ). suc n) last.0, last.1) ]

-- with one interface more
pub interfaces_next : (ds : List Interface) (all : List (Vec Bool Global)) (k : ℕ) (d : Interface) (v : Vec Bool Global) (linked : List (List Function)) (fs : List Function) → slice_get ds k ≡ Some d → slice_get all k ≡ Some v
    → fs ≡ picked (is_marked v.items) (functions_of d) → ArePicked (take k ds) all linked → ArePicked (take (k + 1) ds) all (linked ++ fs ∷ [])
interfaces_next ds all k d v linked fs at at_v are p =
    subst (λ (es : List Interface). ArePicked es all (linked ++ fs ∷ [])) (sym (take_next ds k d at)) (record {
      so_many = (let a = length-append linked (fs ∷ []) in let b = length-append (take k ds) (d ∷ []) in let c = p.so_many in omega (arith, a, b, c));
      each = λ id e gs at_e at_g. elim (get_last linked fs id gs at_g) as (λ _. gs ≡ picked (is_marked_in all id) (functions_of e)) [
        | inl was ↦ elim (get_last (take k ds) d id e at_e) as (λ _. gs ≡ picked (is_marked_in all id) (functions_of e)) [
          | inl stood ↦ p.each id e gs stood was
          | inr end ↦ absurd (let w = slice_get_within linked id gs was in let s = p.so_many in let z = end.0 in omega (arith, w, s, z))
        ]
        | inr last ↦ elim (get_last (take k ds) d id e at_e) as (λ _. gs ≡ picked (is_marked_in all id) (functions_of e)) [
          | inl stood ↦ absurd (let w = slice_get_within (take k ds) id e stood in let s = p.so_many in let z = last.0 in omega (arith, w, s, z))
          | inr end ↦
              (let here : id ≡ k = end.0 ∙ take_long ds k d at in
              let marks : is_marked v.items ≡ is_marked_in all id = ap (λ (o : Option (Vec Bool Global)). is_marked (marks_of o)) (sym (subst (λ (j : ℕ). slice_get all j ≡ Some v) (sym here) at_v)) in
              sym last.1 ∙ are ∙ ap (λ (test : ℕ → Bool). picked test (functions_of d)) marks ∙ ap (λ (x : Interface). picked (is_marked_in all id) (functions_of x)) end.1)
        ]
      ];
    })

-- ---- what stands at a place

-- a core import stands for one thing
stands_same : (n : Names) (i : ImportValue) (x y : CoreImport) → StandsFor n i x → StandsFor n i y → x ≡ y
stands_same n i x y a b =
    let place : a.place ≡ b.place = b.means.only a.place a.means.stands in
    same_Some x y (sym a.is ∙ ap (slice_get (core_imports n.known n.world)) place ∙ b.is)

own_at : (o : Option Entry) (f : Function) → own_import o ≡ Some (CoreImport.func None f) → (e : Entry) × (o ≡ Some e) × (own_function e.1 ≡ Some f)
own_at None f is = absurd cc
own_at (Some e) f is = by (own_function e.1) refl is
  where
    by : (g : Option Function) → own_function e.1 ≡ g → import_of_function None g ≡ Some (CoreImport.func None f) → (d : Entry) × (Some e ≡ Some d) × (own_function d.1 ≡ Some f)
    by None at h = absurd cc
    by (Some g) at h = (e, refl, (let same : g ≡ f = cc in at ∙ ap (λ (x : Function). Some x) same))

own_not_linked : (o : Option Entry) (key : WorldKey) (f : Function) → own_import o ≡ Some (CoreImport.func (Some key) f) → ⊥
own_not_linked None key f is = absurd cc
own_not_linked (Some e) key f is = by (own_function e.1) is
  where
    by : (g : Option Function) → import_of_function None g ≡ Some (CoreImport.func (Some key) f) → ⊥
    by None h = cc
    by (Some g) h = cc

linked_at : (k : Known) (j : ℕ) (o : Option Entry) (key : WorldKey) (f : Function) → interface_import k j o ≡ Some (CoreImport.func (Some key) f) → (e : Entry) × (o ≡ Some e) × (e.0 ≡ key) × (function_in k e.1 j ≡ Some f)
linked_at k j None key f is = absurd cc
linked_at k j (Some e) key f is = by (function_in k e.1 j) refl is
  where
    by : (g : Option Function) → function_in k e.1 j ≡ g → import_of_function (Some e.0) g ≡ Some (CoreImport.func (Some key) f) → (d : Entry) × (Some e ≡ Some d) × (d.0 ≡ key) × (function_in k d.1 j ≡ Some f)
    by None at h = absurd cc
    by (Some g) at h = (e, refl, (let same : e.0 ≡ key = cc in same), (let same : g ≡ f = cc in at ∙ ap (λ (x : Function). Some x) same))

linked_not_own : (k : Known) (j : ℕ) (o : Option Entry) (f : Function) → interface_import k j o ≡ Some (CoreImport.func None f) → ⊥
linked_not_own k j None f is = cc
linked_not_own k j (Some e) f is = by (function_in k e.1 j) is
  where
    by : (g : Option Function) → import_of_function (Some e.0) g ≡ Some (CoreImport.func None f) → ⊥
    by None h = cc
    by (Some g) h = cc

-- what is done with a resource is no function
no_intrinsic : (o : Option Entry) (r : ℕ) (what : ResourceIntrinsic) (key : Option WorldKey) (f : Function) → option_map (λ (e : Entry). CoreImport.intrinsic (Some e.0) r what) o ≡ Some (CoreImport.func key f) → ⊥
no_intrinsic None r what key f h = cc
no_intrinsic (Some e) r what key f h = cc

-- a function at a place of an interface
in_interface : (o : Option Interface) (j : ℕ) (f : Function) → function_of o j ≡ Some f → (d : Interface) × (o ≡ Some d) × (slice_get (functions_of d) j ≡ Some f)
in_interface None j f is = absurd cc
in_interface (Some d) j f is = (d, refl, get_mapped (λ (e : String Global × Function). e.1) d.functions.entries j ∙ is)

-- ---- what is needed

module _ (n : Names) (is : List ImportValue) (own : List Bool) (all : List (Vec Bool Global)) (m : AreMarksOf n is own all) where
  abbrev entries : List Entry
  entries = n.world.imports.entries

  pub own_needed : (fs : List Function) → fs ≡ own_functions (picked (is_marked own) entries) → AreOwnNeeded n is fs
  own_needed fs are = record {
    part = subst (λ (l : List Function). IsPartOf l (own_functions entries)) (sym are) (own_part (picked (is_marked own) entries) entries (picked_part (is_marked own) entries));
    each = λ f h.
        (let r = has_own (picked (is_marked own) entries) f (subst (λ (l : List Function). Has l f) are h) in
        let p = has_picked (is_marked own) entries r.0 r.1 in
        let o = m.own_only p.0 p.2 in
        let same : o.2.item ≡ CoreImport.func None f = same_Some o.2.item (CoreImport.func None f) (sym o.2.has ∙ ap own_import p.1 ∙ ap (import_of_function None) r.2) in
        (o.0, o.1, subst (StandsFor n o.0) same o.2.stands));
    all = λ f (i, h, stands). (let r = m.all i h in subst (λ (l : List Function). Has l f) (sym are) (by r.0 f (r.1.has ∙ ap (λ (x : CoreImport). Some x) (stands_same n i r.1.item (CoreImport.func None f) r.1.stands stands)) r.2));
  }
    where
      by : (p : ImportPlace) (f : Function) → import_at n.known n.world p ≡ Some (CoreImport.func None f) → IsMarked n own all p → Has (own_functions (picked (is_marked own) entries)) f
      by (OwnFunction entry) f at marked =
          let r = own_at (slice_get entries entry) f at in
          own_has (picked (is_marked own) entries) r.0 f (picked_has (is_marked own) entries entry r.0 r.1 marked) r.2
      by (InterfaceFunction entry j) f at marked = absurd (linked_not_own n.known j (slice_get entries entry) f at)
      by (OwnDrop r) f at marked = absurd cc
      by (InterfaceDrop entry r) f at marked = absurd (no_intrinsic (slice_get entries entry) r ImportedDrop None f at)
      by (ExportedIntrinsic entry r what) f at marked = absurd (no_intrinsic (slice_get n.world.exports.entries entry) r what None f at)

  pub linked_needed : (linked : List (List Function)) → ArePicked n.known.interfaces all linked → AreLinkedNeeded n is linked
  linked_needed linked p = record {
    so_many = p.so_many;
    part = λ id d fs at at_fs. subst (λ (l : List Function). IsPartOf l (functions_of d)) (sym (p.each id d fs at at_fs)) (picked_part (is_marked_in all id) (functions_of d));
    each = λ id fs f at_fs h.
        (let within = slice_get_within linked id fs at_fs in
        let so_many = p.so_many in
        let (d, at) = there n.known.interfaces id (omega (arith, within, so_many)) in
        let (j, at_j, marked) = has_picked (is_marked_in all id) (functions_of d) f (subst (λ (l : List Function). Has l f) (p.each id d fs at at_fs) h) in
        let (i, entry, has, (key, stability, span, at_entry), stands) = m.only id j marked in
        let found : function_of (slice_get n.known.interfaces id) j ≡ Some f = ap (λ (o : Option Interface). function_of o j) at ∙ sym (get_mapped (λ (e : String Global × Function). e.1) d.functions.entries j) ∙ at_j in
        let same : stands.item ≡ CoreImport.func (Some key) f = same_Some stands.item (CoreImport.func (Some key) f) (sym stands.has ∙ ap (interface_import n.known j) at_entry ∙ ap (import_of_function (Some key)) found) in
        (key, (stability, span, has_at entries entry (key, item.Interface id stability span) at_entry), (i, has, subst (StandsFor n i) same stands.stands)));
    all = λ key f (i, h, stands).
        (let r = m.all i h in by r.0 key f (r.1.has ∙ ap (λ (x : CoreImport). Some x) (stands_same n i r.1.item (CoreImport.func (Some key) f) r.1.stands stands)) r.2);
  }
    where
      found : (key : WorldKey) (f : Function) (entry j id : ℕ) (e : Entry) (at : IsInterfaceAt n entry id) → slice_get entries entry ≡ Some e → e.0 ≡ key → function_in n.known e.1 j ≡ Some f → is_marked_in all id j ≡ true
          → (k : ℕ) × (fs : List Function) × IsKeyOf n key k × (slice_get linked k ≡ Some fs) × Has fs f
      found key f entry j id e (key2, stability, span, at) at_e is f_is marked =
          let same : e ≡ (key2, item.Interface id stability span) = same_Some e (key2, item.Interface id stability span) (sym at_e ∙ at) in
          let (d, at_d, at_j) = in_interface (slice_get n.known.interfaces id) j f (ap (λ (x : Entry). function_in n.known x.1 j) (sym same) ∙ f_is) in
          let within = slice_get_within n.known.interfaces id d at_d in
          let so_many = p.so_many in
          let (fs, at_fs) = there linked id (omega (arith, within, so_many)) in
          let keys : key2 ≡ key = ap (λ (x : Entry). x.0) (sym same) ∙ is in (
            id,
            fs,
            (stability, span, subst (λ (x : WorldKey). Has entries (x, item.Interface id stability span)) keys (has_at entries entry (key2, item.Interface id stability span) at)),
            at_fs,
            subst (λ (l : List Function). Has l f) (sym (p.each id d fs at_d at_fs)) (picked_has (is_marked_in all id) (functions_of d) j f at_j marked),
          )

      by : (q : ImportPlace) (key : WorldKey) (f : Function) → import_at n.known n.world q ≡ Some (CoreImport.func (Some key) f) → IsMarked n own all q → (k : ℕ) × (fs : List Function) × IsKeyOf n key k × (slice_get linked k ≡ Some fs) × Has fs f
      by (OwnFunction entry) key f at marked = absurd (own_not_linked (slice_get entries entry) key f at)
      by (InterfaceFunction entry j) key f at (id, is_at, marked) = (let r = linked_at n.known j (slice_get entries entry) key f at in found key f entry j id r.0 is_at r.1 r.2 r.3 marked)
      by (OwnDrop r) key f at marked = absurd cc
      by (InterfaceDrop entry r) key f at marked = absurd (no_intrinsic (slice_get entries entry) r ImportedDrop (Some key) f at)
      by (ExportedIntrinsic entry r what) key f at marked = absurd (no_intrinsic (slice_get n.world.exports.entries entry) r what (Some key) f at)
