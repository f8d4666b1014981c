-- The interfaces that are needed, one after the other.
use Rattle.std.proofs.Common.{◌≡◌, ◌⊎◌, ◌<◌, ◌+◌, ℕ, zero, suc, Bool, if◌then◌else◌, List, [], ◌∷◌, ◌++◌, length, take, get_or, Option, Some, None, true, false, refl, sym, ap, subst, ◌∙◌, arith, inl, inr, append_assoc, length-append}
use Rattle.std.specs.Prelude.{slice_get, flat_map, string_bytes, nat_eq, Vec, String}
use Rattle.std.specs.Borrow.{Bor}
use Rattle.std.specs.declared.alloc.Global.{Global}
use Rattle.std.proofs.lemmas.List.{append-nil, take_all}
use Rattle.std.proofs.lemmas.Bool.{cases_Bool, eqb-true, eq-eqb}
use Rattle.wit_order.specs.Order.{Has}
use Rattle.wit_types.specs.declared.function.Function.{Function}
use Rattle.wit_types.specs.declared.interface.TypeDef.{TypeDef}
use Rattle.wit_types.specs.declared.interface.TypeOwner.{TypeOwner}
use Rattle.wit_types.specs.declared.interface.TypeOwner.TheVariants as belongs
use Rattle.wit_reach.specs.Paths.{AreEnds, Reaches}
use Rattle.wit_reach.specs.Types.{IsMadeOf, AreTypesThere}
use Rattle.wit_reach.specs.Made.{IsMadeOfWithin}
use Rattle.wit_reach.specs.Needed.{AreNeeded, BelongsTo}
use Rattle.wit_reach.specs.Deps.{interface_of}
use Rattle.wit_order.proofs.Lists.{has_was}
use Rattle.wit_reach.proofs.Sorting.{belongs_one}
use Rattle.wit_reach.proofs.Lists.{has_parts, has_append}
use Rattle.wit_reach.proofs.Ends.{reaches_then}
use Rattle.wit_reach.proofs.Seen.{path_over}
use Rattle.type_sinks.specs.Passed.type_meaning-Words.{imported}
use Rattle.type_sinks.specs.Passed.type_writing-Writing.{HasItsName, name_given, names_of_types, IsRemembered}
use Rattle.type_sinks.specs.declared.root.Root.{Root}
use Rattle.type_sinks.specs.Kept.{index_of}
use Rattle.type_sinks.specs.Root.{IsHome}
use Rattle.type_sinks.specs.Inside.{is_of, TakenAreApart}
use Rattle.type_sinks.specs.Views.{root_scope, root_names, interface_names, IsInstanceWith, IsTypeOf, InstanceHasFunction}
use Rattle.component_imports.specs.Functions.{functions_of, function_names}
use Rattle.type_sinks.specs.Views.{setting_over}
use Rattle.component_imports.specs.Interface.{interface_name, IsInterfaceImported}
use Rattle.component_imports.specs.Interfaces.{EarlierAreApart, ids_of, linked_of, asked, is_needed, name_if, names_from, owned_name, owned_names, HasInterface, HasInterfaceAt, Stays, IsImportedWith, IsImportedIfNeeded, AreImported}
use Rattle.type_sinks.proofs.Keeping.{each_keeps}
use Rattle.component_imports.proofs.Imported.{named_more}
use Rattle.component_imports.proofs.Walked.{flat_same}
use Rattle.component_imports.proofs.Staying.{stays_on, interface_stays, same_instance, owned_are, each_of, each_in}

-- what is asked of an interface's functions is asked
pub functions_asked : (linked : List (List Function)) (i : ℕ) (fs : List Function) (x : ℕ) → slice_get linked i ≡ Some fs → Has (ids_of fs) x → Has (flat_map ids_of linked) x
functions_asked [] i fs x at h = absurd cc
functions_asked (gs ∷ linked) zero fs x at h = let same : gs ≡ fs = cc in has_was (ids_of gs) (flat_map ids_of linked) x (subst (λ l. Has (ids_of l) x) (sym same) h)
functions_asked (gs ∷ linked) (suc i) fs x at h = has_append (ids_of gs) (flat_map ids_of linked) x (functions_asked linked i fs x at h)

-- a type of the interface that the walk reaches is needed
module _ (n : ℕ) (types : List TypeDef) (others : List ℕ) (linked : List (List Function)) (needed : List (List ℕ)) (all : AreNeeded n types (asked others linked) needed)
    (own : ℕ) (ids : List ℕ) (fs : List Function) (at : slice_get needed own ≡ Some ids) (has : slice_get linked own ≡ Some fs) where
  pub made : (i s : ℕ) → Reaches (IsMadeOfWithin (belongs.Interface own) types) s i → Reaches (IsMadeOf types) s i
  made i s h = (h.0, path_over (IsMadeOfWithin (belongs.Interface own) types) (IsMadeOf types) (λ a b u. (u.0, u.1, u.3)) s h.0 i h.1)

  pub from_start : (i s : ℕ) → Has (ids ++ ids_of fs) s → Reaches (IsMadeOf types) s i → (t : ℕ) × Has (asked others linked) t × Reaches (IsMadeOf types) t i
  from_start i s h r = elim (has_parts ids (ids_of fs) s h) as (λ _. (t : ℕ) × Has (asked others linked) t × Reaches (IsMadeOf types) t i) [
    | inl a ↦ let from = ((all.needed own ids at s).0 a).1 in (from.0, from.1, reaches_then (IsMadeOf types) from.0 from.2.0 s i from.2.1 r)
    | inr b ↦ (s, has_append others (flat_map ids_of linked) s (functions_asked linked own fs s has b), r)
  ]

  module _ (walked : List ℕ) (ends : AreEnds (IsMadeOfWithin (belongs.Interface own) types) (Has (ids ++ ids_of fs)) walked) where
    -- and all that it reaches is asked for
    pub is_asked : (i : ℕ) → Has walked i → (t : ℕ) × Has (asked others linked) t × Reaches (IsMadeOf types) t i
    is_asked i h = let start = ends.only i h in from_start i start.0 start.1 (made i start.0 start.2)

    pub own_needed : (i : ℕ) → Has walked i → BelongsTo types i own → Has ids i
    own_needed i h b = (all.needed own ids at i).1 (b, is_asked i h)

    -- and one that isn't the interface's has no name here
    counts : (i : ℕ) (x : Option TypeDef) → slice_get types i ≡ x → Has walked i → Has ids i ⊎ (owned_name own x ≡ [])
    counts i None e h = inr refl
    counts i (Some d) e h = elim (cases_Bool (is_of own d.owner)) as (λ _. Has ids i ⊎ (owned_name own (Some d) ≡ [])) [
      | inl b ↦ inl (own_needed i h (d, e, owner_is d.owner b))
      | inr b ↦ inr (ap (λ c. name_given c d.name) b)
    ]
      where
        owner_is : (o : TypeOwner) → is_of own o ≡ true → interface_of o ≡ Some own
        owner_is (belongs.World w) k = absurd cc
        owner_is (belongs.Interface j) k = ap (λ (m : ℕ). Some m) (eqb-true j own k)
        owner_is belongs.None k = absurd cc

    pub reached_needed : (i : ℕ) → Has ids i → Has walked i
    reached_needed i h = ends.all i i (has_was ids (ids_of fs) i h) ([], refl)

    pub same_names : owned_names own types walked ≡ owned_names own types ids
    same_names = flat_same (λ i. owned_name own (slice_get types i)) walked ids ends.rising (all.rising own ids at) reached_needed (λ i h. counts i (slice_get types i) refl h)

    -- ---- the interface is there

    pub interface_there : (old new : Root) → IsInterfaceImported old new types own walked fs → HasInterface new types own ids fs
    interface_there old new h =
        let k = length (root_scope old).instances in
        let At : List (List ℕ) → List (List ℕ) → Type 0 = λ names l. IsInstanceWith new k (imported (get_or names own [])) (l ++ function_names fs) in
        let Fun : List (List ℕ) → Function → Type 0 = λ names f. InstanceHasFunction new k (imported (get_or names own [])) types (string_bytes f.name) f.params.items f.result in
        let homes = named_more (setting_over new own) types (λ id. index_of new.homes id ≡ Some k) (λ id. IsHome (interface_names new) types (root_scope new).instances id k) walked (λ id e. h.good.instances id k e) h.homes in
        record {
          instance = k;
          items = subst (At (interface_names new)) (owned_are old own types walked ∙ same_names) (subst (λ names. At names (names_of_types (setting_over old own) types walked)) (sym h.interfaces) h.items);
          homes = each_of (HasItsName (setting_over new own) types (λ id. IsHome (interface_names new) types (root_scope new).instances id k)) ids (λ id there.
              each_in (HasItsName (setting_over new own) types (λ id. IsHome (interface_names new) types (root_scope new).instances id k)) walked id homes (reached_needed id there));
          has = each_keeps _ _ fs (λ f g. subst (λ names. Fun names f) (sym h.interfaces) g) h.has;
        }

-- ---- one after the other

-- those below one are imported
pub record AreImportedTo (old new : Root) (types : List TypeDef) (instances : List (Option ℕ)) (needed : List (List ℕ)) (linked : List (List Function)) (n : ℕ) : Type 0 where
  pub long : length instances ≡ n
  pub stays : Stays old new types
  pub names : root_names new ≡ root_names old ++ names_from (interface_name old) 0 (take n needed) (take n linked)
  pub has : (i : ℕ) (ids : List ℕ) (fs : List Function) → i < n → slice_get needed i ≡ Some ids → slice_get linked i ≡ Some fs → is_needed ids fs ≡ true → HasInterfaceAt new types instances i ids fs
  pub none : (i : ℕ) (ids : List ℕ) (fs : List Function) → i < n → slice_get needed i ≡ Some ids → slice_get linked i ≡ Some fs → is_needed ids fs ≡ false → slice_get instances i ≡ Some None
  pub taken : (id k : ℕ) → index_of new.homes id ≡ Some k → (j : ℕ) × IsTypeOf types id j × (j < n)
  pub homes : (i : ℕ) (ids : List ℕ) (fs : List Function) (id : ℕ) (d : TypeDef) (x : String Global) → i < n → slice_get needed i ≡ Some ids → slice_get linked i ≡ Some fs → Has ids id → slice_get types id ≡ Some d → d.name ≡ Some x
      → IsRemembered (index_of new.homes) id

pub some_needed : (ids : List ℕ) (fs : List Function) (id : ℕ) → Has ids id → is_needed ids fs ≡ true
some_needed [] fs id h = absurd h
some_needed (i ∷ ids) fs id h = refl

home_there : (n : ℕ) (types : List TypeDef) (others : List ℕ) (linked : List (List Function)) (needed : List (List ℕ)) (all : AreNeeded n types (asked others linked) needed) (own : ℕ) (ids : List ℕ) (fs : List Function)
    (at : slice_get needed own ≡ Some ids) (has : slice_get linked own ≡ Some fs) {old new : Root} → IsImportedWith old new types own ids fs → (id : ℕ) (d : TypeDef) (x : String Global) → Has ids id → slice_get types id ≡ Some d → d.name ≡ Some x
    → IsRemembered (index_of new.homes) id
home_there n types others linked needed all own ids fs at has {old} {new} with id d x there at_type named =
    let walked = reached_needed n types others linked needed all own ids fs at has with.ids with.are id there in
    let given = each_in (HasItsName (setting_over old own) types (λ i. index_of new.homes i ≡ Some (length (root_scope old).instances))) with.ids id with.imported.homes walked in
    let b = ((all.needed own ids at id).0 there).0 in
    (length (root_scope old).instances, given d x at_type named (owner_own own d.owner (belongs_one types id own d at_type b)))
  where
    owner_own : (o : ℕ) (w : TypeOwner) → interface_of w ≡ Some o → is_of o w ≡ true
    owner_own o (belongs.World v) k = absurd cc
    owner_own o (belongs.Interface j) k = let e : j ≡ o = cc in eq-eqb j o e
    owner_own o belongs.None k = absurd cc

-- ---- one more

pub got_below : {X : Type 0} (xs : List X) (i : ℕ) (x : X) → slice_get xs i ≡ Some x → i < length xs
got_below [] i x h = absurd cc
got_below (y ∷ xs) zero x h = omega arith
got_below (y ∷ xs) (suc i) x h = let k = got_below xs i x h in omega (arith, k)

pub linked_at : (vs : List (Vec (Bor Function) Global)) (i : ℕ) (v : Vec (Bor Function) Global) → i < length vs → v ≡ get_or vs i v → slice_get (linked_of vs) i ≡ Some (functions_of v.items)
linked_at [] i v lt at = absurd (omega (arith, lt))
linked_at (w ∷ vs) zero v lt at = ap (λ (u : Vec (Bor Function) Global). Some (functions_of u.items)) (sym at)
linked_at (w ∷ vs) (suc i) v lt at = linked_at vs i v (omega (arith, lt)) at

pub linked_count : (vs : List (Vec (Bor Function) Global)) → length (linked_of vs) ≡ length vs
linked_count [] = refl
linked_count (v ∷ vs) = ap suc (linked_count vs)

pub all_needed : (n : ℕ) (types : List TypeDef) (vs : List (Vec (Bor Function) Global)) (others ids from : List ℕ) (needed : List (List ℕ)) → n ≡ length vs → from ≡ ids → ids ≡ asked others (linked_of vs)
    → AreNeeded n types from needed → AreNeeded (length (linked_of vs)) types (asked others (linked_of vs)) needed
all_needed n types vs others ids from needed count same are h = subst (λ m. AreNeeded m types (asked others (linked_of vs)) needed) (count ∙ sym (linked_count vs)) (subst (λ l. AreNeeded n types l needed) (same ∙ are) h)

pub needed_there : (n : ℕ) (types : List TypeDef) (ids : List ℕ) (needed : List (List ℕ)) (i : ℕ) (own : List ℕ) → AreNeeded n types ids needed → slice_get needed i ≡ Some own → AreTypesThere types own
needed_there n types ids needed i own all at x h = let b = ((all.needed i own at x).0 h).0 in got_below types x b.0 b.1

pub functions_there : (types : List TypeDef) (others : List ℕ) (linked : List (List Function)) (i : ℕ) (fs : List Function) → AreTypesThere types (asked others linked) → slice_get linked i ≡ Some fs → AreTypesThere types (ids_of fs)
functions_there types others linked i fs there at x h = there x (has_append others (flat_map ids_of linked) x (functions_asked linked i fs x at h))

names_next : (f : ℕ → List ℕ) (k n m : ℕ) (needed : List (List ℕ)) (linked : List (List Function)) (ids : List ℕ) (fs : List Function) → m ≡ k + n → slice_get needed n ≡ Some ids → slice_get linked n ≡ Some fs
    → names_from f k (take (suc n) needed) (take (suc n) linked) ≡ names_from f k (take n needed) (take n linked) ++ name_if (is_needed ids fs) (f m)
names_next f k n m [] linked ids fs e a b = absurd cc
names_next f k n m (x ∷ needed) [] ids fs e a b = absurd cc
names_next f k zero m (x ∷ needed) (y ∷ linked) ids fs e a b =
    let same : x ≡ ids = cc in
    let others : y ≡ fs = cc in
    let at : k ≡ m = omega (arith, e) in
    append-nil (name_if (is_needed x y) (f k)) ∙ (λ i. name_if (is_needed (same i) (others i)) (f (at i)))
names_next f k (suc n) m (x ∷ needed) (y ∷ linked) ids fs e a b =
    let at : m ≡ suc k + n = omega (arith, e) in
    ap (λ l. name_if (is_needed x y) (f k) ++ l) (names_next f (suc k) n m needed linked ids fs at a b)
    ∙ sym (append_assoc (name_if (is_needed x y) (f k)) (names_from f (suc k) (take n needed) (take n linked)) (name_if (is_needed ids fs) (f m)))

at_most : (i n : ℕ) → i < n + 1 → (i < n) ⊎ (i ≡ n)
at_most i n lt = elim (cases_Bool (nat_eq i n)) [
  | inl b ↦ inr (eqb-true i n b)
  | inr b ↦
      let differ : i ≡ n → ⊥ = λ e. (let k : true ≡ false = sym (eq-eqb i n e) ∙ b in absurd cc) in
      inl (omega (arith, lt, differ))
]

-- the next instance is that of what is needed
abbrev pub next_instance : Root → List ℕ → List Function → Option ℕ
next_instance r ids fs = if is_needed ids fs then Some (length (root_scope r).instances) else None

get_front : {X : Type 0} (xs : List X) (y : X) (i : ℕ) (x : X) → slice_get xs i ≡ Some x → slice_get (xs ++ y ∷ []) i ≡ Some x
get_front [] y i x at = absurd cc
get_front (z ∷ xs) y zero x at = at
get_front (z ∷ xs) y (suc i) x at = get_front xs y i x at

get_end : {X : Type 0} (xs : List X) (y : X) → slice_get (xs ++ y ∷ []) (length xs) ≡ Some y
get_end [] y = refl
get_end (z ∷ xs) y = get_end xs y

pub imported_next : (start old new : Root) (types : List TypeDef) (instances : List (Option ℕ)) (others : List ℕ) (needed : List (List ℕ)) (linked : List (List Function)) (n own : ℕ) (ids : List ℕ) (fs : List Function)
    → own ≡ n → AreNeeded (length linked) types (asked others linked) needed → slice_get needed n ≡ Some ids → slice_get linked n ≡ Some fs
    → AreImportedTo start old types instances needed linked n → IsImportedIfNeeded old new types own ids fs → AreImportedTo start new types (instances ++ next_instance old ids fs ∷ []) needed linked (n + 1)
unfolding interface_there
imported_next start old new types instances others needed linked n own ids fs same all a b before one =
    let name : interface_name old own ≡ interface_name start n = (λ i. get_or (before.stays.interfaces i) (same i) []) in
    let next : suc n ≡ n + 1 = omega arith in
    let more = instances ++ next_instance old ids fs ∷ [] in
    record {
      long = (let l = length-append instances (next_instance old ids fs ∷ []) in let m = before.long in omega (arith, l, m));
      stays = stays_on start old new types before.stays one.stays;
      names = one.names ∙ (λ i. before.names i ++ name_if (is_needed ids fs) (name i))
          ∙ append_assoc (root_names start) (names_from (interface_name start) 0 (take n needed) (take n linked)) (name_if (is_needed ids fs) (interface_name start n))
          ∙ ap (λ l. root_names start ++ l) (sym (names_next (interface_name start) 0 n n needed linked ids fs (omega arith) a b))
          ∙ ap (λ m. root_names start ++ names_from (interface_name start) 0 (take m needed) (take m linked)) next;
      has = λ i js gs lt at_needed at_linked there. elim (at_most i n lt) as (λ _. HasInterfaceAt new types more i js gs) [
        | inl low ↦ (
            let h = before.has i js gs low at_needed at_linked there in
            let same : Some (Some h.0.instance) ≡ Some (Some (interface_stays old new types i js gs one.stays h.0).instance) = ap (λ (k : ℕ). Some (Some k)) (sym (same_instance old new types i js gs one.stays h.0)) in
            (interface_stays old new types i js gs one.stays h.0, get_front instances (next_instance old ids fs) i (Some h.0.instance) h.1 ∙ same)
            )
        | inr e ↦
            let here_needed : slice_get needed own ≡ Some ids = ap (slice_get needed) same ∙ a in
            let here_linked : slice_get linked own ≡ Some fs = ap (slice_get linked) same ∙ b in
            let both : Some js ≡ Some ids = sym at_needed ∙ ap (slice_get needed) e ∙ a in
            let both_linked : Some gs ≡ Some fs = sym at_linked ∙ ap (slice_get linked) e ∙ b in
            let ids_same : js ≡ ids = cc in
            let fs_same : gs ≡ fs = cc in
            let is : is_needed ids fs ≡ true = sym (λ k. is_needed (ids_same k) (fs_same k)) ∙ there in
            let with = one.imported is in
            let made = interface_there (length linked) types others linked needed all own ids fs here_needed here_linked with.ids with.are old new with.imported in
            let last : slice_get more own ≡ Some (Some (length (root_scope old).instances)) =
            subst (λ m. slice_get more m ≡ Some (Some (length (root_scope old).instances))) (before.long ∙ sym same)
            (get_end instances (next_instance old ids fs) ∙ ap (λ (b : Bool). Some (if b then Some (length (root_scope old).instances) else None)) is) in
            subst (λ m. HasInterfaceAt new types more m js gs) (same ∙ sym e) (subst (λ l. HasInterfaceAt new types more own l gs) (sym ids_same) (subst (λ l. HasInterfaceAt new types more own ids l) (sym fs_same) (made, last)))
      ];
      none = λ i js gs lt at_needed at_linked unneeded. elim (at_most i n lt) as (λ _. slice_get more i ≡ Some None) [
        | inl low ↦ get_front instances (next_instance old ids fs) i None (before.none i js gs low at_needed at_linked unneeded)
        | inr e ↦
            let both : Some js ≡ Some ids = sym at_needed ∙ ap (slice_get needed) e ∙ a in
            let both_linked : Some gs ≡ Some fs = sym at_linked ∙ ap (slice_get linked) e ∙ b in
            let ids_same : js ≡ ids = cc in
            let fs_same : gs ≡ fs = cc in
            let not_needed : is_needed ids fs ≡ false = sym (λ k. is_needed (ids_same k) (fs_same k)) ∙ unneeded in
            subst (λ m. slice_get more m ≡ Some None) (before.long ∙ sym e)
            (get_end instances (next_instance old ids fs) ∙ ap (λ (b : Bool). Some (if b then Some (length (root_scope old).instances) else None)) not_needed)
      ];
      taken = λ id k h. elim (one.homes_only id k h) as (λ _. (j : ℕ) × IsTypeOf types id j × (j < n + 1)) [
        | inl was ↦ (let t = before.taken id k was in (t.0, t.1, (let lt = t.2 in omega (arith, lt))))
        | inr own_type ↦ (own, own_type, omega (arith, same))
      ];
      homes = λ i js gs id d x lt at_needed at_linked has at_type named. elim (at_most i n lt) as (λ _. IsRemembered (index_of new.homes) id) [
        | inl low ↦ one.stays.homes_stay id (before.homes i js gs id d x low at_needed at_linked has at_type named)
        | inr e ↦
            let here_needed : slice_get needed own ≡ Some ids = ap (slice_get needed) same ∙ a in
            let here_linked : slice_get linked own ≡ Some fs = ap (slice_get linked) same ∙ b in
            let both : Some js ≡ Some ids = sym at_needed ∙ ap (slice_get needed) e ∙ a in
            let ids_same : js ≡ ids = cc in
            let there : Has ids id = subst (λ l. Has l id) ids_same has in
            home_there (length linked) types others linked needed all own ids fs here_needed here_linked (one.imported (some_needed ids fs id there)) id d x there at_type named
      ];
    }

pub all_imported : (start new : Root) (types : List TypeDef) (instances : List (Option ℕ)) (needed : List (List ℕ)) (linked : List (List Function)) (n : ℕ) → length linked ≡ n → length needed ≡ n → AreImportedTo start new types instances needed linked n
    → AreImported start new types instances needed linked
all_imported start new types instances needed linked n count_linked count h = record {
  stays = h.stays;
  names = h.names ∙ (λ i. root_names start ++ names_from (interface_name start) 0 (take_all n needed (omega (arith, count)) i) (take_all n linked (omega (arith, count_linked)) i));
  long = h.long ∙ sym count_linked;
  has = λ i ids fs a b there. h.has i ids fs (let k = got_below linked i fs b in omega (arith, k, count_linked)) a b there;
  none = λ i ids fs a b unneeded. h.none i ids fs (let k = got_below linked i fs b in omega (arith, k, count_linked)) a b unneeded;
  homes = λ i ids fs id d x a b. h.homes i ids fs id d x (let k = got_below linked i fs b in omega (arith, k, count_linked)) a b;
}

-- what may be taken is of earlier interfaces
pub taken_apart : (start old : Root) (types : List TypeDef) (instances : List (Option ℕ)) (needed : List (List ℕ)) (linked : List (List Function)) (n own : ℕ) → own ≡ n → EarlierAreApart types → AreImportedTo start old types instances needed linked n
    → TakenAreApart (index_of old.homes) own types
taken_apart start old types instances needed linked n own same apart before id k d x t home at named _ unfolds =
    let from = before.taken id k home in
    let there = from.1.1 in
    let one : from.1.0 ≡ d = cc in
    let low = from.2 in
    apart own id from.0 d x t at (ap (λ (y : TypeDef). y.owner) (sym one) ∙ from.1.2) (omega (arith, low, same)) named unfolds
