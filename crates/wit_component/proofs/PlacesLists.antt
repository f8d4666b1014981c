-- Filters and tests, and what is noted of the items that pass them.
use Rattle.std.proofs.Common.{◌≡◌, ℕ, ◌+◌, ◌<◌, ◌≤◌, Bool, true, false, cond, List, [], ◌∷◌, ◌++◌, length, Option, Some, None, refl, sym, ap, subst, ◌∙◌, arith, inl, inr, length-append, append-nil, zero, suc, take, drop, get_or, append_assoc}
use Rattle.std.specs.Prelude.{map, filter, slice_get, is_some, ◌||◌, ◌&&◌, bytes_eq, option_map, Any}
use Rattle.std.specs.List.{list_any}
use Rattle.std.proofs.lemmas.Bool.{cases_Bool}
use Rattle.std.proofs.lemmas.List.{length-map, length-take-le, map_more, take_all, take-append-drop, map-append}
use Rattle.std.proofs.lemmas.Option.{slice_get-map, slice_get_read, slice_get-get_or, slice_get_within, get_or_from_slice_get}
use Rattle.std.proofs.lemmas.Slice.Eq.{bytes_eq-Decides}
use Rattle.std.proofs.lemmas.List.{map_push}
use Rattle.wit_component.specs.declared.table.Candidates.{Candidates}
use Rattle.wit_component.specs.declared.table.Candidates.TheVariants.{One, Several}
use Rattle.wit_component.specs.Candidates.{with_one, joined, Stands, Notes}
use Rattle.wit_component.specs.Places.{Placed}

-- ---- texts

pub bytes_eq_is : (xs ys : List ℕ) → bytes_eq xs ys ≡ true → xs ≡ ys
bytes_eq_is xs ys h = (bytes_eq-Decides xs ys).0 h

pub bytes_eq_same : (xs ys : List ℕ) → xs ≡ ys → bytes_eq xs ys ≡ true
bytes_eq_same xs ys e = (bytes_eq-Decides xs ys).1 e

pub bytes_eq_sym : (xs ys : List ℕ) → bytes_eq xs ys ≡ bytes_eq ys xs
bytes_eq_sym xs ys = elim (cases_Bool (bytes_eq xs ys)) [
  | inl t ↦ t ∙ sym (bytes_eq_same ys xs (sym (bytes_eq_is xs ys t)))
  | inr f ↦ elim (cases_Bool (bytes_eq ys xs)) [
    | inl t ↦ bytes_eq_same xs ys (sym (bytes_eq_is ys xs t)) ∙ sym t
    | inr g ↦ f ∙ sym g
  ]
]

-- ---- filters

module _ {X : Type 0} where
  pub filter_yes : (test : X → Bool) (x : X) (xs : List X) → test x ≡ true → filter test (x ∷ xs) ≡ x ∷ filter test xs
  filter_yes test x xs t = rw t refl

  pub filter_no : (test : X → Bool) (x : X) (xs : List X) → test x ≡ false → filter test (x ∷ xs) ≡ filter test xs
  filter_no test x xs t = rw t refl

  pub filter_append : (test : X → Bool) (xs ys : List X) → filter test (xs ++ ys) ≡ filter test xs ++ filter test ys
  filter_append test [] ys = refl
  filter_append test (x ∷ xs) ys = let r = filter_append test xs ys in elim (cases_Bool (test x)) [ inl t ↦ rw t (ap (λ zs. x ∷ zs) r) | inr t ↦ rw t r ]

  filter_last_yes : (test : X → Bool) (xs : List X) (x : X) → test x ≡ true → filter test (xs ++ x ∷ []) ≡ filter test xs ++ x ∷ []
  filter_last_yes test xs x t = filter_append test xs (x ∷ []) ∙ ap (λ l. filter test xs ++ l) (filter_yes test x [] t)

  filter_last_no : (test : X → Bool) (xs : List X) (x : X) → test x ≡ false → filter test (xs ++ x ∷ []) ≡ filter test xs
  filter_last_no test xs x t = filter_append test xs (x ∷ []) ∙ ap (λ l. filter test xs ++ l) (filter_no test x [] t) ∙ append-nil (filter test xs)

  pub filter_same : (a b : X → Bool) → ((x : X) → a x ≡ b x) → (xs : List X) → filter a xs ≡ filter b xs
  filter_same a b h xs = λ i. filter (λ x. h x i) xs

  -- a test that none passes
  pub filter_none : (test : X → Bool) → ((x : X) → test x ≡ false) → (xs : List X) → filter test xs ≡ []
  filter_none test h [] = refl
  filter_none test h (x ∷ xs) = filter_no test x xs (h x) ∙ filter_none test h xs

  -- none passes a narrower test
  pub filter_narrower : (a b : X → Bool) → ((x : X) → b x ≡ false → a x ≡ false) → (xs : List X) → filter b xs ≡ [] → filter a xs ≡ []
  filter_narrower a b h [] e = refl
  filter_narrower a b h (x ∷ xs) e = elim (cases_Bool (b x)) [
    | inl t ↦ absurd (let bad : x ∷ filter b xs ≡ [] = sym (filter_yes b x xs t) ∙ e in cc)
    | inr t ↦ filter_no a x xs (h x t) ∙ filter_narrower a b h xs (sym (filter_no b x xs t) ∙ e)
  ]

  or_left : (a b : X → Bool) (xs : List X) → filter a xs ≡ [] → filter (λ x. a x || b x) xs ≡ filter b xs
  or_left a b [] e = refl
  or_left a b (x ∷ xs) e = elim (cases_Bool (a x)) [
    | inl t ↦ absurd (let bad : x ∷ filter a xs ≡ [] = sym (filter_yes a x xs t) ∙ e in cc)
    | inr t ↦ let rest = or_left a b xs (sym (filter_no a x xs t) ∙ e) in
        elim (cases_Bool (b x)) [ inl u ↦ rw (t, u) (ap (λ l. x ∷ l) rest) | inr u ↦ rw (t, u) rest ]
  ]

  or_right : (a b : X → Bool) (xs : List X) → filter b xs ≡ [] → filter (λ x. a x || b x) xs ≡ filter a xs
  or_right a b [] e = refl
  or_right a b (x ∷ xs) e = elim (cases_Bool (b x)) [
    | inl t ↦ absurd (let bad : x ∷ filter b xs ≡ [] = sym (filter_yes b x xs t) ∙ e in cc)
    | inr t ↦ let rest = or_right a b xs (sym (filter_no b x xs t) ∙ e) in
        elim (cases_Bool (a x)) [ inl u ↦ rw u (ap (λ l. x ∷ l) rest) | inr u ↦ rw (u, t) rest ]
  ]

  or_length : (a b : X → Bool) → ((x : X) → a x ≡ true → b x ≡ false) → (xs : List X) → length (filter (λ x. a x || b x) xs) ≡ length (filter a xs) + length (filter b xs)
  or_length a b apart [] = refl
  or_length a b apart (x ∷ xs) = let rest = or_length a b apart xs in
      elim (cases_Bool (a x)) [
        | inl t ↦ rw (t, apart x t) (omega (arith, rest))
        | inr t ↦ elim (cases_Bool (b x)) [ inl u ↦ rw (t, u) (omega (arith, rest)) | inr u ↦ rw (t, u) rest ]
      ]

  pub filter_map : {Y : Type 0} (test : Y → Bool) (f : X → Y) (xs : List X) → filter test (map f xs) ≡ map f (filter (λ x. test (f x)) xs)
  filter_map test f [] = refl
  filter_map test f (x ∷ xs) = let r = filter_map test f xs in elim (cases_Bool (test (f x))) [ inl t ↦ rw t (ap (λ l. f x ∷ l) r) | inr t ↦ rw t r ]

-- ---- tests of lists

module _ {X : Type 0} where
  pub any_none : (test : X → Bool) (xs : List X) → filter test xs ≡ [] → list_any test xs ≡ false
  any_none test [] e = refl
  any_none test (x ∷ xs) e = elim (cases_Bool (test x)) [
    | inl t ↦ absurd (let bad : x ∷ filter test xs ≡ [] = sym (filter_yes test x xs t) ∙ e in cc)
    | inr t ↦ rw t (any_none test xs (sym (filter_no test x xs t) ∙ e))
  ]

  pub any_some : (test : X → Bool) (xs : List X) → 0 < length (filter test xs) → list_any test xs ≡ true
  any_some test [] h = absurd (omega arith)
  any_some test (x ∷ xs) h = elim (cases_Bool (test x)) [
    | inl t ↦ rw t refl
    | inr t ↦ rw t (any_some test xs (subst (λ (l : List X). 0 < length l) (filter_no test x xs t) h))
  ]

  never : (xs : List X) → list_any (λ x. false) xs ≡ false
  never [] = refl
  never (x ∷ xs) = never xs

  pub any_and : (b : Bool) (test : X → Bool) (xs : List X) → list_any (λ x. b && test x) xs ≡ (b && list_any test xs)
  any_and true test xs = refl
  any_and false test xs = never xs

  pub any_or : (p q : X → Bool) (xs : List X) → list_any (λ x. p x || q x) xs ≡ (list_any p xs || list_any q xs)
  any_or p q [] = refl
  any_or p q (x ∷ xs) = let rest = any_or p q xs in
      elim (cases_Bool (p x)) [
        | inl t ↦ rw t refl
        | inr t ↦ elim (cases_Bool (q x)) [
          | inl u ↦ elim (cases_Bool (list_any p xs)) [ inl v ↦ rw (t, u, v) refl | inr v ↦ rw (t, u, v) refl ]
          | inr u ↦ rw (t, u) rest
        ]
      ]

  pub any_swap : {Y : Type 0} (R : Y → X → Bool) (xs : List X) (ys : List Y) → list_any (λ x. list_any (λ y. R y x) ys) xs ≡ list_any (λ y. list_any (λ x. R y x) xs) ys
  any_swap R xs [] = never xs
  any_swap R xs (y ∷ ys) = any_or (λ x. R y x) (λ x. list_any (λ z. R z x) ys) xs ∙ ap (λ b. list_any (λ x. R y x) xs || b) (any_swap R xs ys)

-- ---- what is noted

module _ {X : Type 0} where
  last_there : (xs : List X) (x : X) → slice_get (xs ++ x ∷ []) (length xs) ≡ Some x
  last_there [] x = refl
  last_there (y ∷ xs) x = last_there xs x

  still_there : (xs ys : List X) (k : ℕ) (x : X) → slice_get xs k ≡ Some x → slice_get (xs ++ ys) k ≡ Some x
  still_there [] ys k x e = absurd cc
  still_there (y ∷ xs) ys zero x e = e
  still_there (y ∷ xs) ys (suc k) x e = still_there xs ys k x e

  module _ (test : X → Bool) (xs : List X) (x : X) where
    with_last : (b : Bool) → test x ≡ b → (o : Option Candidates) → Stands test xs o → Stands test (xs ++ x ∷ []) (cond b (Some (with_one o (length xs))) o)
    with_last true t None s = (x, last_there xs x, filter_last_yes test xs x t ∙ ap (λ l. l ++ x ∷ []) s)
    with_last true t (Some (One p)) s = rw (filter_last_yes test xs x t, s.2) (omega arith)
    with_last true t (Some Several) s = rw (filter_last_yes test xs x t) (omega (arith, length-append (filter test xs) (x ∷ [])))
    with_last false t None s = filter_last_no test xs x t ∙ s
    with_last false t (Some (One p)) s = (s.0, still_there xs (x ∷ []) p s.0 s.1, filter_last_no test xs x t ∙ s.2)
    with_last false t (Some Several) s = rw (filter_last_no test xs x t) s

    -- one more item
    pub stands_more : (o : Option Candidates) → Stands test xs o → Stands test (xs ++ x ∷ []) (cond (test x) (Some (with_one o (length xs))) o)
    stands_more o s = with_last (test x) refl o s

  -- of equal tests the same is noted
  pub stands_same : (a b : X → Bool) → ((x : X) → a x ≡ b x) → (xs : List X) (o : Option Candidates) → Stands a xs o → Stands b xs o
  stands_same a b h xs o s = subst (λ (t : X → Bool). Stands t xs o) (λ i x. h x i) s

  filtered_same : (a b : X → Bool) (xs : List X) (o : Option Candidates) → filter b xs ≡ filter a xs → Stands a xs o → Stands b xs o
  filtered_same a b xs None e s = e ∙ s
  filtered_same a b xs (Some (One p)) e s = (s.0, s.1, e ∙ s.2)
  filtered_same a b xs (Some Several) e s = rw e s

  pub stands_some : (test : X → Bool) (xs : List X) (found : Candidates) → Stands test xs (Some found) → 0 < length (filter test xs)
  stands_some test xs (One p) s = rw s.2 (omega arith)
  stands_some test xs Several s = omega arith

  pub stands_any : (test : X → Bool) (xs : List X) (o : Option Candidates) → Stands test xs o → list_any test xs ≡ is_some o
  stands_any test xs None s = any_none test xs s
  stands_any test xs (Some found) s = any_some test xs (stands_some test xs found s)

  pub stands_joined : (a b : X → Bool) → ((x : X) → a x ≡ true → b x ≡ false) → (xs : List X) (o p : Option Candidates) → Stands a xs o → Stands b xs p → Stands (λ x. a x || b x) xs (joined o p)
  stands_joined a b apart xs None p s t = filtered_same b (λ x. a x || b x) xs p (or_left a b xs s) t
  stands_joined a b apart xs (Some c) None s t = filtered_same a (λ x. a x || b x) xs (Some c) (or_right a b xs t) s
  stands_joined a b apart xs (Some c) (Some d) s t = omega (arith, or_length a b apart xs, stands_some a xs c s, stands_some b xs d t)

  -- what is noted of views
  pub stands_map : {Y : Type 0} (f : X → Y) (test : Y → Bool) (xs : List X) (o : Option Candidates) → Stands (λ x. test (f x)) xs o → Stands test (map f xs) o
  stands_map f test xs None s = filter_map test f xs ∙ ap (map f) s
  stands_map f test xs (Some (One p)) s = (f s.0, slice_get-map f xs p ∙ ap (option_map f) s.1, filter_map test f xs ∙ ap (map f) s.2)
  stands_map f test xs (Some Several) s = rw (filter_map test f xs) (subst (λ n. 1 < n) (sym (length-map (filter (λ x. test (f x)) xs) f)) s)

-- ---- one more text in a map

pub noted : (look : List ℕ → Option Candidates) (after : Option Candidates) (text q : List ℕ) (w : Candidates) (place : ℕ) → w ≡ with_one (look text) place
    → after ≡ cond (bytes_eq text q) (Some w) (look q) → after ≡ cond (bytes_eq text q) (Some (with_one (look q) place)) (look q)
noted look after text q w place is e = elim (cases_Bool (bytes_eq text q)) [
  | inl t ↦ let same : text ≡ q = bytes_eq_is text q t in let here : after ≡ Some w = rw t at e in rw t (here ∙ ap (λ c. Some c) (is ∙ ap (λ l. with_one (look l) place) same))
  | inr f ↦ rw f (rw f at e)
]

module _ {A X : Type 0} (view : A → X) (name : X → List ℕ) (items : List A) (i : ℕ) where
  pub notes_more : (d : A) (text : List ℕ) (look new : List ℕ → Option Candidates) → i < length items → text ≡ name (view (get_or items i d)) → Notes name (map view (take i items)) look
      → ((q : List ℕ) → new q ≡ cond (bytes_eq text q) (Some (with_one (look q) i)) (look q)) → Notes name (map view (take (i + 1) items)) new
  notes_more d text look new lt is so_far now = λ q.
      let x : X = view (get_or items i d) in
      let front : List X = map view (take i items) in
      let at : length front ≡ i = length-map (take i items) view ∙ length-take-le i items (omega arith) in
      let one_more = stands_more (λ y. bytes_eq (name y) q) front x (look q) (so_far q) in
      let found : new q ≡ cond (bytes_eq (name x) q) (Some (with_one (look q) (length front))) (look q) =
      now q ∙ ap (λ t. cond (bytes_eq t q) (Some (with_one (look q) i)) (look q)) is ∙ ap (λ k. cond (bytes_eq (name x) q) (Some (with_one (look q) k)) (look q)) (sym at) in
      let all : map view (take (i + 1) items) ≡ front ++ x ∷ [] = map_more view items i d lt in
      subst (λ (l : List X). Stands (λ y. bytes_eq (name y) q) l (new q)) (sym all) (subst (λ (o : Option Candidates). Stands (λ y. bytes_eq (name y) q) (front ++ x ∷ []) o) (sym found) one_more)

  pub notes_all : (look : List ℕ → Option Candidates) → length items ≤ i → Notes name (map view (take i items)) look → Notes name (map view items) look
  notes_all look le h = subst (λ (l : List A). Notes name (map view l) look) (take_all i items le) h

-- ---- the one that is noted

pub view_at : {A B C : Type 0} (f : A → B) (g : B → C) (items : List A) (place : ℕ) (a : A) → slice_get items place ≡ Some a → slice_get (map g (map f items)) place ≡ Some (g (f a))
view_at f g items place a at = slice_get-map g (map f items) place ∙ ap (option_map g) (slice_get-map f items place ∙ ap (option_map f) at)

pub item_at : {A : Type 0} (xs items : List A) (place : ℕ) (a : A) → xs ≡ items → place < length xs → a ≡ get_or xs place a → slice_get items place ≡ Some a
item_at {A} xs items place a same lt is = ap (λ (l : List A). slice_get l place) (sym same) ∙ slice_get_read xs (length xs) place a refl lt is

module _ {X : Type 0} (test : X → Bool) (xs : List X) (found : Option Candidates) (only : Candidates) (place : ℕ) (some : found ≡ Some only) (one : only ≡ One place) (stands : Stands test xs found) where
  at_one : Stands test xs (Some (One place))
  at_one = subst (λ (c : Candidates). Stands test xs (Some c)) one (subst (λ (o : Option Candidates). Stands test xs o) some stands)

  -- the item at the place is the only one
  pub the_one : (x : X) → slice_get xs place ≡ Some x → filter test xs ≡ x ∷ []
  the_one x at = let s = at_one in let same : Some s.0 ≡ Some x = sym s.1 ∙ at in let is : s.0 ≡ x = cc in s.2 ∙ ap (λ y. y ∷ []) is

  -- and it is there
  pub the_one_there : slice_get xs place ≡ None → ⊥
  the_one_there none = let s = at_one in let bad : None ≡ Some s.0 = sym none ∙ s.1 in absurd cc

pub any_only : {X : Type 0} (P : X → Type 0) (xs : List X) (x : X) → xs ≡ x ∷ [] → P x → Any P xs
any_only {X} P xs x e p = subst (λ (l : List X). Any P l) (sym e) (0, x, omega arith, refl, p)

-- ---- pairs of lists

pub each_placed : {X : Type 0} (R : X → ℕ → Type 0) (xs : List X) (ps : List ℕ) (x : X) (p : ℕ) → Placed R xs ps → R x p → Placed R (xs ++ x ∷ []) (ps ++ p ∷ [])
each_placed R [] [] x p h r = (r, tt)
each_placed R [] (q ∷ ps) x p h r = absurd h
each_placed R (y ∷ xs) [] x p h r = absurd h
each_placed R (y ∷ xs) (q ∷ ps) x p h r = (h.0, each_placed R xs ps x p h.1 r)

pub placed_more : {A X : Type 0} (view : A → X) (R : X → ℕ → Type 0) (xs items : List A) (i : ℕ) (a : A) (ps new : List ℕ) (p : ℕ) → xs ≡ items → i < length xs → a ≡ get_or xs i a
    → Placed R (map view (take i items)) ps → R (view a) p → new ≡ ps ++ p ∷ [] → Placed R (map view (take (i + 1) items)) new
placed_more {A} {X} view R xs items i a ps new p same lt is h r e =
    let lt' : i < length items = subst (λ (l : List A). i < length l) same lt in
    let is' : a ≡ get_or items i a = subst (λ (l : List A). a ≡ get_or l i a) same is in
    let more : map view (take (i + 1) items) ≡ map view (take i items) ++ view a ∷ [] = map_more view items i a lt' ∙ ap (λ (x : A). map view (take i items) ++ view x ∷ []) (sym is') in
    subst (λ (l : List X). Placed R l new) (sym more) (subst (λ (qs : List ℕ). Placed R (map view (take i items) ++ view a ∷ []) qs) (sym e) (each_placed R (map view (take i items)) ps (view a) p h r))

-- notes of views
pub notes_map : {X Y : Type 0} (f : X → Y) (name : Y → List ℕ) (xs : List X) (look : List ℕ → Option Candidates) → Notes (λ x. name (f x)) xs look → Notes name (map f xs) look
notes_map f name xs look h = λ q. stands_map f (λ y. bytes_eq (name y) q) xs (look q) (h q)

pub placed_push : {X : Type 0} (R : X → ℕ → Type 0) (xs : List X) (ps qs new : List ℕ) (x : X) (p : ℕ) → new ≡ qs ++ p ∷ [] → qs ≡ ps → Placed R xs ps → R x p → Placed R (xs ++ x ∷ []) new
placed_push R xs ps qs new x p e same h r = subst (λ (l : List ℕ). Placed R (xs ++ x ∷ []) l) (sym (e ∙ ap (λ (l : List ℕ). l ++ p ∷ []) same)) (each_placed R xs ps x p h r)

-- what a look-up answers
pub looked_up : {X : Type 0} (name : X → List ℕ) (xs : List X) (look : List ℕ → Option Candidates) (q : List ℕ) (found : Option Candidates) → Notes name xs look → found ≡ look q → Stands (λ x. bytes_eq (name x) q) xs found
looked_up name xs look q found notes is = subst (λ (o : Option Candidates). Stands (λ x. bytes_eq (name x) q) xs o) (sym is) (notes q)

-- an item of a list that is seen through two views
module _ {A B X : Type 0} (f : A → B) (g : B → X) (xs items : List A) (i : ℕ) (d : A) (same : xs ≡ items) (lt : i < length xs) where
  pub seen_more : map g (map f (take (i + 1) items)) ≡ map g (map f (take i items)) ++ g (f (get_or xs i d)) ∷ []
  seen_more =
      let lt' : i < length items = subst (λ (l : List A). i < length l) same lt in
      ap (map g) (map_more f items i d lt') ∙ map_push g (map f (take i items)) (f (get_or items i d)) ∙ ap (λ (l : List A). map g (map f (take i items)) ++ g (f (get_or l i d)) ∷ []) (sym same)

  -- what holds of it holds of one
  pub any_seen : (P : X → Type 0) → P (g (f (get_or xs i d))) → Any P (map g (map f items))
  any_seen P p =
      let x : X = g (f (get_or xs i d)) in
      let there : slice_get (map g (map f items)) i ≡ Some x = view_at f g items i (get_or xs i d) (ap (λ (l : List A). slice_get l i) (sym same) ∙ slice_get-get_or xs i d lt) in
      (i, x, slice_get_within (map g (map f items)) i x there, get_or_from_slice_get (map g (map f items)) i x x there, p)

  -- and what lies behind it
  pub seen_parts : map g (map f items) ≡ map g (map f (take i items)) ++ g (f (get_or xs i d)) ∷ map g (map f (drop (i + 1) items))
  seen_parts =
      ap (λ (l : List A). map g (map f l)) (sym (take-append-drop (i + 1) items))
      ∙ ap (map g) (map-append f (take (i + 1) items) (drop (i + 1) items))
      ∙ map-append g (map f (take (i + 1) items)) (map f (drop (i + 1) items))
      ∙ ap (λ (l : List X). l ++ map g (map f (drop (i + 1) items))) seen_more
      ∙ append_assoc (map g (map f (take i items))) (g (f (get_or xs i d)) ∷ []) (map g (map f (drop (i + 1) items)))
