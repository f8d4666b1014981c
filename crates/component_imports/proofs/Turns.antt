-- Where what is asked for is all written, each interface is ready when its turn comes.
use Rattle.std.proofs.Common.{◌≡◌, ◌<◌, ◌+◌, ◌⊎◌, ℕ, zero, suc, List, [], ◌∷◌, ◌++◌, length, take, get_or, Option, Some, Bool, true, false, not, refl, sym, ap, subst, ◌∙◌, arith, inl, inr}
use Rattle.std.specs.Prelude.{slice_get, bytes_eq, String, ◌||◌}
use Rattle.std.specs.declared.alloc.Global.{Global}
use Rattle.std.specs.List.{list_any}
use Rattle.std.proofs.lemmas.List.Folds.{list_any-append}
use Rattle.distinct_names.specs.Names.{is_new}
use Rattle.wit_order.specs.Order.{Has}
use Rattle.wit_types.specs.declared.function.Function.{Function}
use Rattle.wit_types.specs.declared.interface.TypeDef.{TypeDef}
use Rattle.wit_types.specs.declared.interface.TypeOwner.{TypeOwner}
use Rattle.wit_types.specs.declared.interface.TypeOwner.TheVariants as belongs
use Rattle.wit_reach.specs.Ids.{kind_ids, resource_ids, signature_ids, function_ids}
use Rattle.wit_reach.specs.Paths.{AreEnds, AreRising}
use Rattle.wit_reach.specs.Types.{AreTypesBackward}
use Rattle.wit_reach.specs.Made.{is_open, IsMadeOfWithin}
use Rattle.wit_reach.specs.Needed.{AreNeeded, BelongsTo}
use Rattle.wit_reach.specs.Deps.{interface_of}
use Rattle.wit_order.proofs.Lists.{has_was}
use Rattle.wit_reach.proofs.Lists.{has_parts, has_append}
use Rattle.wit_reach.proofs.Ends.{reaches_more}
use Rattle.type_sinks.specs.Passed.type_writing-Writing.{IsRemembered}
use Rattle.type_sinks.specs.Kept.{index_of}
use Rattle.type_sinks.specs.declared.root.Root.{Root}
use Rattle.type_sinks.specs.Inside.{is_of}
use Rattle.type_sinks.specs.Views.{root_names}
use Rattle.component_imports.specs.Functions.{function_names}
use Rattle.type_sinks.specs.Views.{setting_over}
use Rattle.component_imports.specs.Interface.{interface_name}
use Rattle.component_imports.specs.Interfaces.{ids_of, asked, is_needed, name_if, names_from}
use Rattle.component_imports.specs.Ready.{AreDistinct, IsWrittenHere, IsReady, IsAsked, IsSeenBy, AreWritable, IsInterfaceAsked}
use Rattle.component_imports.proofs.Staying.{owned_are}
use Rattle.component_imports.proofs.Needing.{AreImportedTo, got_below, is_asked, same_names}

-- ---- lists

-- what is below one of a rising list stands before it
rising_front : (before : List ℕ) (i : ℕ) (behind : List ℕ) (k : ℕ) → AreRising (before ++ i ∷ behind) → Has (before ++ i ∷ behind) k → k < i → Has before k
rising_front [] i behind k up h lt = elim h as (λ _. ⊥) [
  | inl e ↦ absurd (omega (arith, lt, e))
  | inr later ↦ (let above = up.0 k later in absurd (omega (arith, above, lt)))
]
rising_front (b ∷ before) i behind k up h lt = elim h as (λ _. Has (b ∷ before) k) [
  | inl e ↦ inl e
  | inr later ↦ inr (rising_front before i behind k up.1 later lt)
]

pub get_some : {X : Type 0} (xs : List X) (i : ℕ) → i < length xs → (x : X) × (slice_get xs i ≡ Some x)
get_some [] i lt = absurd (omega (arith, lt))
get_some (x ∷ xs) zero lt = (x, refl)
get_some (x ∷ xs) (suc i) lt = get_some xs i (omega (arith, lt))

has_of : (fs : List Function) (f : Function) (k : ℕ) → Has fs f → Has (function_ids f) k → Has (ids_of fs) k
has_of [] f k h g = absurd h
has_of (x ∷ fs) f k h g = elim h as (λ _. Has (ids_of (x ∷ fs)) k) [
  | inl e ↦ has_was (function_ids x) (ids_of fs) k (subst (λ (y : Function). Has (function_ids y) k) e g)
  | inr later ↦ has_append (function_ids x) (ids_of fs) k (has_of fs f k later g)
]

-- ---- names of interfaces

if_none : (b : Bool) (x name : List ℕ) → (b ≡ true → bytes_eq x name ≡ false) → list_any (bytes_eq x) (name_if b name) ≡ false
if_none true x name e = ap (λ c. c || false) (e refl)
if_none false x name e = refl

none_from : (f : ℕ → List ℕ) (x : List ℕ) (k : ℕ) (needed : List (List ℕ)) (linked : List (List Function))
    → ((i j : ℕ) (ids : List ℕ) (fs : List Function) → j ≡ k + i → slice_get needed i ≡ Some ids → slice_get linked i ≡ Some fs → is_needed ids fs ≡ true → bytes_eq x (f j) ≡ false) → list_any (bytes_eq x) (names_from f k needed linked) ≡ false
none_from f x k [] linked h = refl
none_from f x k (ids ∷ needed) [] h = refl
none_from f x k (ids ∷ needed) (fs ∷ linked) h =
    list_any-append (bytes_eq x) (name_if (is_needed ids fs) (f k)) (names_from f (suc k) needed linked)
    ∙ ap (λ c. c || list_any (bytes_eq x) (names_from f (suc k) needed linked)) (if_none (is_needed ids fs) x (f k) (λ is. h zero k ids fs (omega arith) refl refl is))
    ∙ none_from f x (suc k) needed linked (λ i j js gs e at has is. h (suc i) j js gs (omega (arith, e)) at has is)

get_taken : {X : Type 0} (n : ℕ) (xs : List X) (i : ℕ) (x : X) → slice_get (take n xs) i ≡ Some x → (i < n) × (slice_get xs i ≡ Some x)
get_taken zero xs i x at = absurd cc
get_taken (suc n) [] i x at = absurd cc
get_taken (suc n) (y ∷ xs) zero x at = (omega arith, at)
get_taken (suc n) (y ∷ xs) (suc i) x at = let k = get_taken n xs i x at in let lt = k.0 in (omega (arith, lt), k.1)

still_new : (xs ys : List (List ℕ)) (x : List ℕ) → is_new xs x ≡ true → list_any (bytes_eq x) ys ≡ false → is_new (xs ++ ys) x ≡ true
still_new xs ys x a b = ap not (list_any-append (bytes_eq x) xs ys ∙ ap (λ c. list_any (bytes_eq x) xs || c) b ∙ or_false (list_any (bytes_eq x) xs)) ∙ a
  where
    or_false : (c : Bool) → (c || false) ≡ c
    or_false true = refl
    or_false false = refl

-- ---- an interface whose turn it is

module _ (start old : Root) (types : List TypeDef) (instances : List (Option ℕ)) (others : List ℕ) (linked : List (List Function)) (needed : List (List ℕ)) (backward : AreTypesBackward types) (all : AreNeeded (length linked) types (asked others linked) needed)
    (can : AreWritable start types others linked) (own : ℕ) (before : AreImportedTo start old types instances needed linked own) (ids : List ℕ) (fs : List Function) (at : slice_get needed own ≡ Some ids) (has : slice_get linked own ≡ Some fs)
    (walked : List ℕ) (ends : AreEnds (IsMadeOfWithin (belongs.Interface own) types) (Has (ids ++ ids_of fs)) walked) where
  asked_there : (i : ℕ) → Has walked i → IsAsked types others linked i
  asked_there i h = is_asked (length linked) types others linked needed all own ids fs at has walked ends i h

  seen_there : (i : ℕ) → Has walked i → IsSeenBy types linked own i
  seen_there i h =
      let from = ends.only i h in (
        from.0,
        elim (has_parts ids (ids_of fs) from.0 from.1) as (λ _. BelongsTo types from.0 own ⊎ ((gs : List Function) × (slice_get linked own ≡ Some gs) × Has (ids_of gs) from.0)) [
          | inl a ↦ inl ((all.needed own ids at from.0).0 a).0
          | inr b ↦ inr (fs, has, b)
        ],
        from.2,
      )

  opens : (i : ℕ) (d : TypeDef) → Has walked i → slice_get types i ≡ Some d → IsWrittenHere (setting_over old own) d → is_open (belongs.Interface own) d.owner ≡ true
  opens i d h t here = elim here as (λ _. is_open (belongs.Interface own) d.owner ≡ true) [
    | inl bare ↦ ap (is_open (belongs.Interface own)) (can.bare i d (asked_there i h) t bare)
    | inr owned ↦ open_own d.owner owned
  ]
    where
      open_own : (o : TypeOwner) → is_of own o ≡ true → is_open (belongs.Interface own) o ≡ true
      open_own (belongs.World w) k = absurd cc
      open_own (belongs.Interface j) k = k
      open_own belongs.None k = refl

  in_front : (front : List ℕ) (i : ℕ) (behind : List ℕ) → walked ≡ front ++ i ∷ behind → Has walked i
  in_front front i behind e = subst (λ l. Has l i) (sym e) (has_append front (i ∷ behind) i (inl refl))

  parts_ready : (front : List ℕ) (i : ℕ) (behind : List ℕ) (d : TypeDef) (k : ℕ) → walked ≡ front ++ i ∷ behind → slice_get types i ≡ Some d → IsWrittenHere (setting_over old own) d → Has (kind_ids d.kind) k → Has front k
  parts_ready front i behind d k e t here part =
      let i_in = in_front front i behind e in
      let from = ends.only i i_in in
      let uses : IsMadeOfWithin (belongs.Interface own) types i k = (d, t, opens i d i_in t here, part) in
      let k_in = ends.all k from.0 from.1 (reaches_more (IsMadeOfWithin (belongs.Interface own) types) from.0 i k from.2 uses) in
      rising_front front i behind k (subst AreRising e ends.rising) (subst (λ l. Has l k) e k_in) (backward i k (d, t, part))

  home_ready : (i : ℕ) (d : TypeDef) (x : String Global) → Has walked i → slice_get types i ≡ Some d → d.name ≡ Some x → is_of own d.owner ≡ false → IsRemembered (index_of old.homes) i
  home_ready i d x h t named away =
      let other = can.earlier own i d x (seen_there i h) t named away in
      let j = other.0 in
      let low : j < length linked = (let a = other.2 in let b = got_below linked own fs has in omega (arith, a, b)) in
      let row = get_some needed j (let s = all.size in omega (arith, low, s)) in
      let gs = get_some linked j low in
      let b : BelongsTo types i j = (d, t, ap interface_of other.1) in
      let there = (all.needed j row.0 row.1 i).1 (b, asked_there i h) in
      before.homes j row.0 gs.0 i d x other.2 row.1 gs.1 there t named

  over_ready : (f : Function) (k : ℕ) → Has fs f → Has (signature_ids f) k → Has walked k
  over_ready f k f_in h = ends.all k k (has_append ids (ids_of fs) k (has_of fs f k f_in (has_append (resource_ids f.kind) (signature_ids f) k h))) ([], refl)

  -- something is asked of an interface that is needed
  asked_of : (i : ℕ) (js : List ℕ) (gs : List Function) → slice_get needed i ≡ Some js → slice_get linked i ≡ Some gs → is_needed js gs ≡ true → IsInterfaceAsked types others linked i
  asked_of i [] [] a b is = absurd cc
  asked_of i [] (g ∷ gs) a b is = inr (g ∷ gs, g, b, inl refl)
  asked_of i (j ∷ js) gs a b is = let k = (all.needed i (j ∷ js) a j).0 (inl refl) in inl (j, k.0, k.1)

  name_new : is_needed ids fs ≡ true → is_new (root_names old) (interface_name old own) ≡ true
  name_new is =
      let name : interface_name old own ≡ interface_name start own = ap (λ l. get_or l own []) before.stays.interfaces in
      let here = asked_of own ids fs at has is in
      let none = none_from (interface_name start) (interface_name start own) 0 (take own needed) (take own linked) (λ i j js gs e a b needs.
      (let a2 = get_taken own needed i js a in
      let b2 = get_taken own linked i gs b in
      let same : j ≡ i = omega (arith, e) in
      let low = a2.0 in
      can.apart j own (omega (arith, low, same)) (subst (IsInterfaceAsked types others linked) (sym same) (asked_of i js gs a2.1 b2.1 needs)) here)) in
      ap (is_new (root_names old)) name ∙ ap (λ l. is_new l (interface_name start own)) before.names
      ∙ still_new (root_names start) (names_from (interface_name start) 0 (take own needed) (take own linked)) (interface_name start own) (can.new own here) none

  pub ready_now : is_needed ids fs ≡ true → IsReady old types own walked fs
  ready_now is = record {
    items = record {
      kinds = λ i d h t here. can.kinds i d (asked_there i h) t;
      parts = parts_ready;
      foreign = home_ready;
      written = λ f. can.functions own fs f has;
      over = over_ready;
      distinct = subst (λ l. AreDistinct (l ++ function_names fs)) (sym (owned_are old own types walked ∙ same_names (length linked) types others linked needed all own ids fs at has walked ends))
          (can.distinct own ids fs (λ i h. ((all.needed own ids at i).0 h).0) (all.rising own ids at) has);
    };
    named = (let a = can.named in let b = got_below linked own fs has in let c = ap length before.stays.interfaces in omega (arith, a, b, c));
    new = name_new is;
  }
