-- What a walk takes is what is reached, and what is reached from all starts is what a world imports.
use Rattle.std.proofs.Common.{◌≡◌, ℕ, ◌<◌, ◌≤◌, List, [], ◌∷◌, ◌++◌, ◌⊎◌, ◌↔◌, inl, inr, refl, sym, subst, arith, length}
use Rattle.std.specs.Prelude.{reverse}
use Rattle.std.specs.Ordering.{nat_cmp}
use Rattle.std.specs.BTreeMap.Range.{IsLtBy}
use Rattle.std.specs.List.{All}
use Rattle.wit_types.specs.Passed.wit_order-Order.{Has}
use Rattle.wit_types.specs.Passed.wit_order-Places.{Rows}
use Rattle.wit_reach.specs.Paths.{AreRising, IsPath, Reaches, AreBackward, AreEnds}
use Rattle.wit_reach.specs.Reach.{Uses, AreThere, Lists, IsNeededOutside, IsStart, IsElaborated, IsConflict, IsElaboration}
use Rattle.wit_reach.specs.Walk.{bottom, AreFalling, Walk}
use Rattle.wit_types.proofs.Passed.wit_order-Lists.{has_last, has_was, has_more}
use Rattle.wit_reach.proofs.Lists.{below_all, has_reverse, has_reversed, reverse_cons, rising_append, rising_one, rising_first, has_append, has_parts}

pub falling_more : (n : ℕ) (xs : List ℕ) (x : ℕ) → AreFalling n xs → x < bottom n xs → AreFalling n (xs ++ x ∷ [])
falling_more n [] x f l = (l, tt)
falling_more n (y ∷ xs) x f l = (f.0, falling_more y xs x f.1 l)

pub bottom_more : (n : ℕ) (xs : List ℕ) (x : ℕ) → bottom n (xs ++ x ∷ []) ≡ x
bottom_more n [] x = refl
bottom_more n (y ∷ xs) x = bottom_more y xs x

falling_below : (n : ℕ) (xs : List ℕ) → AreFalling n xs → (x : ℕ) → Has xs x → x < n
falling_below n [] f x h = absurd h
falling_below n (y ∷ xs) f x h =
    let l : y < n = f.0 in
    elim h as (λ _. x < n) [ inl e ↦ (let same : x ≡ y = e in omega arith) | inr later ↦ (let m : x < y = falling_below y xs f.1 x later in omega arith) ]

pub falling_rises : (n : ℕ) (xs : List ℕ) → AreFalling n xs → AreRising (reverse xs)
falling_rises n [] f = tt
falling_rises n (y ∷ xs) f =
    subst AreRising (sym (reverse_cons y xs)) (rising_append (reverse xs) y (falling_rises y xs f.1) (λ z h. falling_below y xs f.1 z (has_reversed xs z h)))

path_more : (uses : ℕ → ℕ → Type 0) (a : ℕ) (via : List ℕ) (b c : ℕ) → IsPath uses a via b → uses b c → Reaches uses a c
path_more uses a [] b c p u = (c ∷ [], (subst (λ (z : ℕ). uses z c) (sym p) u, refl))
path_more uses a (d ∷ via) b c p u = let r = path_more uses d via b c p.1 u in (d ∷ r.0, (p.0, r.1))

pub reaches_more : (uses : ℕ → ℕ → Type 0) (a b c : ℕ) → Reaches uses a b → uses b c → Reaches uses a c
reaches_more uses a b c r u = path_more uses a r.0 b c r.1 u

pub reaches_then : (uses : ℕ → ℕ → Type 0) (a : ℕ) (via : List ℕ) (b c : ℕ) → IsPath uses a via b → Reaches uses b c → Reaches uses a c
reaches_then uses a [] b c p r = subst (λ (z : ℕ). Reaches uses z c) (sym p) r
reaches_then uses a (d ∷ via) b c p r = let k = reaches_then uses d via b c p.1 r in (d ∷ k.0, (p.0, k.1))

-- what holds a place and all that its members use holds the ends of paths
pub closed_ends : (uses : ℕ → ℕ → Type 0) (P : ℕ → Type 0) → ((i j : ℕ) → P i → uses i j → P j) → (a : ℕ) (via : List ℕ) (b : ℕ) → P a → IsPath uses a via b → P b
closed_ends uses P closed a [] b h p = subst P p h
closed_ends uses P closed a (c ∷ via) b h p = closed_ends uses P closed c via b (closed a c h p.0) p.1

-- all that is reached from places below n is below n
pub ends_below : (uses : ℕ → ℕ → Type 0) (n : ℕ) (starts order : List ℕ) → AreBackward uses → ((i : ℕ) → Has starts i → i < n) → AreEnds uses (Has starts) order → (i : ℕ) → Has order i → i < n
ends_below uses n starts order back there ends i h =
    let o = ends.only i h in
    closed_ends uses (λ (z : ℕ). z < n) (λ a b l u. (let m : b < a = back a b u in omega arith)) o.0 o.2.0 i (there o.0 o.1) o.2.1

pub walk_step : (n : ℕ) (uses : ℕ → ℕ → Type 0) (starts left rest keys falling : List ℕ) (i : ℕ)
    → AreBackward uses → left ≡ rest ++ i ∷ [] → All (λ q. IsLtBy nat_cmp q i) rest
    → ((j : ℕ) → Has rest j → Has keys j) → ((j : ℕ) → uses i j → Has keys j) → ((j : ℕ) → Has keys j → Has rest j ⊎ uses i j)
    → Walk n uses starts left falling → Walk n uses starts keys (falling ++ i ∷ [])
walk_step n uses starts left rest keys falling i back popped below was new only w =
    let Now : ℕ → Type 0 = λ j. Has (falling ++ i ∷ []) j ⊎ Has keys j in
    let in_left : (j : ℕ) → Has left j → (j ≡ i) ⊎ Has rest j = λ j h. has_more rest i j (subst (λ (l : List ℕ). Has l j) popped h) in
    let taken : Has left i = subst (λ (l : List ℕ). Has l i) (sym popped) (has_last rest i) in
    let stays : (j : ℕ) → Has falling j ⊎ Has left j → Now j =
    λ j h. elim h as (λ _. Now j) [
      | inl f ↦ inl (has_was falling (i ∷ []) j f)
      | inr l ↦ elim (in_left j l) as (λ _. Now j) [
        | inl e ↦ inl (subst (λ (z : ℕ). Has (falling ++ i ∷ []) z) (sym e) (has_last falling i))
        | inr r ↦ inr (was j r)
      ]
    ] in
    let b : bottom n (falling ++ i ∷ []) ≡ i = bottom_more n falling i in
    record {
      falling = falling_more n falling i w.falling (w.below i taken);
      below = λ j h. subst (λ (z : ℕ). j < z) (sym b) (elim (only j h) as (λ _. j < i) [ inl r ↦ below_all i rest j below r | inr u ↦ back i j u ]);
      starts = λ j h. stays j (w.starts j h);
      closed = λ a j h u. elim (has_more falling i a h) as (λ _. Now j) [
        | inl e ↦ inr (new j (subst (λ (z : ℕ). uses z j) e u))
        | inr f ↦ stays j (w.closed a j f u)
      ];
      only = λ j h. elim h as (λ _. (s : ℕ) × Has starts s × Reaches uses s j) [
        | inl f ↦ elim (has_more falling i j f) as (λ _. (s : ℕ) × Has starts s × Reaches uses s j) [
          | inl e ↦ w.only j (inr (subst (λ (z : ℕ). Has left z) (sym e) taken))
          | inr was ↦ w.only j (inl was)
        ]
        | inr k ↦ elim (only j k) as (λ _. (s : ℕ) × Has starts s × Reaches uses s j) [
          | inl r ↦ w.only j (inr (subst (λ (l : List ℕ). Has l j) (sym popped) (has_was rest (i ∷ []) j r)))
          | inr u ↦ (let from = w.only i (inr taken) in (from.0, from.1, reaches_more uses from.0 i j from.2 u))
        ]
      ];
    }

pub walk_falls : (n : ℕ) (uses : ℕ → ℕ → Type 0) (starts left rest falling : List ℕ) (i : ℕ) → left ≡ rest ++ i ∷ [] → Walk n uses starts left falling
    → (i < n) × (bottom n (falling ++ i ∷ []) < bottom n falling)
walk_falls n uses starts left rest falling i popped w =
    let taken : Has left i = subst (λ (l : List ℕ). Has l i) (sym popped) (has_last rest i) in
    let l : i < bottom n falling = w.below i taken in
    let top : bottom n falling ≤ n = bottom_within n falling w.falling in
    let b : bottom n (falling ++ i ∷ []) ≡ i = bottom_more n falling i in
    (omega arith, omega arith)
  where
    bottom_within : (n : ℕ) (xs : List ℕ) → AreFalling n xs → bottom n xs ≤ n
    bottom_within n [] f = omega arith
    bottom_within n (y ∷ xs) f = let l : y < n = f.0 in let m : bottom y xs ≤ y = bottom_within y xs f.1 in omega arith

pub walk_begins : (n : ℕ) (uses : ℕ → ℕ → Type 0) (starts left : List ℕ) → ((i : ℕ) → Has starts i → i < n)
    → ((i : ℕ) → Has starts i → Has left i) → ((i : ℕ) → Has left i → Has [] i ⊎ Has starts i) → Walk n uses starts left []
walk_begins n uses starts left there new only =
    let from : (i : ℕ) → Has left i → Has starts i = λ i h. elim (only i h) as (λ _. Has starts i) [ inl none ↦ absurd none | inr s ↦ s ] in
    record {
      falling = tt;
      below = λ i h. there i (from i h);
      starts = λ i h. inr (new i h);
      closed = λ i j h u. absurd h;
      only = λ i h. elim h as (λ _. (s : ℕ) × Has starts s × Reaches uses s i) [ inl none ↦ absurd none | inr l ↦ (i, from i l, ([], refl)) ];
    }

pub walk_ends : (n : ℕ) (uses : ℕ → ℕ → Type 0) (starts left falling : List ℕ) → left ≡ [] → Walk n uses starts left falling → AreEnds uses (Has starts) (reverse falling)
walk_ends n uses starts left falling empty w =
    let inside : (i : ℕ) → Has falling i ⊎ Has left i → Has falling i =
    λ i h. elim h as (λ _. Has falling i) [ inl f ↦ f | inr l ↦ absurd (subst (λ (k : List ℕ). Has k i) empty l) ] in
    record {
      all = λ i s h r. has_reverse falling i (closed_ends uses (Has falling) (λ a j f u. inside j (w.closed a j f u)) s r.0 i (inside s (w.starts s h)) r.1);
      only = λ i h. w.only i (inl (has_reversed falling i h));
      rising = falling_rises n falling w.falling;
    }

-- the ends of all starts are the elaboration
pub elaborates : (g : Rows) (w : Lists) (starts order : List ℕ) → AreBackward (Uses g)
    → ((i : ℕ) → Has starts i → IsStart g w i) → ((i : ℕ) → IsStart g w i → Has starts i)
    → AreEnds (Uses g) (Has starts) order → ((i : ℕ) → IsConflict g w i → ⊥) → IsElaboration g w order
elaborates g w starts order back sound complete ends none = record {
  all = λ i h. ends.all i h.0 (complete h.0 h.1) h.2;
  only = λ i h. let o = ends.only i h in (o.0, sound o.0 o.1, o.2);
  rising = ends.rising;
  first = rising_first (length g) (Uses g) [] order ends.rising (λ y z h k. absurd h)
      (λ i j h u. inr (let o = ends.only i h in ends.all j o.0 o.1 (reaches_more (Uses g) o.0 i j o.2 u))) back;
  no_conflict = none;
}

-- elaborating again
again_all : (g : Rows) (w : Lists) (order : List ℕ) → IsElaboration g w order → (i : ℕ) → IsElaborated g (record w { imports = order }) i → Has order i
again_all g w order e i h =
    let s : ℕ = h.0 in
    let start : Has order s = elim h.1 as (λ _. Has order s) [
      | inl listed ↦ listed
      | inr other ↦ elim other as (λ _. Has order s) [
        | inl used ↦ e.all s (s, inr (inl used), ([], refl))
        | inr third ↦ e.all s (s, inr (inr third), ([], refl))
      ]
    ] in
    let k = e.only s start in
    e.all i (k.0, k.1, reaches_then (Uses g) k.0 k.2.0 s i k.2.1 h.2)

pub again_same : (g : Rows) (w : Lists) (order : List ℕ) → IsElaboration g w order → IsElaboration g (record w { imports = order }) order
again_same g w order e = record {
  all = again_all g w order e;
  only = λ i h. (i, inl h, ([], refl));
  rising = e.rising;
  first = e.first;
  no_conflict = e.no_conflict;
}

pub elaboration_one : (g : Rows) (w : Lists) (xs ys : List ℕ) → IsElaboration g w xs → IsElaboration g w ys → xs ≡ ys
elaboration_one g w xs ys a b = rising_one xs ys a.rising b.rising (λ i h. b.all i (a.only i h)) (λ i h. a.all i (b.only i h))

-- what an export needs is there, since interfaces use earlier ones
outside_there : (g : Rows) (w : Lists) → AreBackward (Uses g) → ((i : ℕ) → Has w.exports i → i < length g) → (i : ℕ) → IsNeededOutside g w.exports i → i < length g
outside_there g w back there i h =
    let l : i < h.1.0 = back h.1.0 i h.1.2 in
    let m : h.1.0 < length g = there h.1.0 h.1.1 in
    omega arith

-- the list of all starts
pub start_list : (g : Rows) (w : Lists) (thirds joined : List ℕ) → AreBackward (Uses g) → AreThere g w
    → joined ≡ (thirds ++ w.imports) ++ w.used → ((i : ℕ) → Has thirds i ↔ IsNeededOutside g w.exports i)
    → ((i : ℕ) → Has joined i → i < length g) × ((i : ℕ) → Has joined i → IsStart g w i) × ((i : ℕ) → IsStart g w i → Has joined i)
start_list g w thirds joined back there e outside =
    let sound : (i : ℕ) → Has joined i → IsStart g w i =
    λ (i : ℕ). λ (h : Has joined i). elim (has_parts (thirds ++ w.imports) w.used i (subst (λ (l : List ℕ). Has l i) e h)) as (λ _. IsStart g w i) [
      | inl front ↦ elim (has_parts thirds w.imports i front) as (λ _. IsStart g w i) [ inl third ↦ inr (inr ((outside i).0 third)) | inr listed ↦ inl listed ]
      | inr used ↦ inr (inl used)
    ] in
    let complete : (i : ℕ) → IsStart g w i → Has joined i =
    λ (i : ℕ). λ (h : IsStart g w i). subst (λ (l : List ℕ). Has l i) (sym e) (elim h as (λ _. Has ((thirds ++ w.imports) ++ w.used) i) [
      | inl listed ↦ has_was (thirds ++ w.imports) w.used i (has_append thirds w.imports i listed)
      | inr other ↦ elim other as (λ _. Has ((thirds ++ w.imports) ++ w.used) i) [
        | inl used ↦ has_append (thirds ++ w.imports) w.used i used
        | inr third ↦ has_was (thirds ++ w.imports) w.used i (has_was thirds w.imports i ((outside i).1 third))
      ]
    ]) in (
      (λ i h. elim (sound i h) as (λ _. i < length g) [
        | inl listed ↦ there.imports i listed
        | inr other ↦ elim other as (λ _. i < length g) [ inl used ↦ there.used i used | inr third ↦ outside_there g w back there.exports i third ]
      ]),
      sound,
      complete,
    )

pub thirds_there : (g : Rows) (w : Lists) (thirds : List ℕ) → AreBackward (Uses g) → AreThere g w
    → ((i : ℕ) → Has thirds i ↔ IsNeededOutside g w.exports i) → (i : ℕ) → Has thirds i → i < length g
thirds_there g w thirds back there outside i h = outside_there g w back there.exports i ((outside i).0 h)

pub no_conflict : (g : Rows) (w : Lists) (thirds outside keys : List ℕ)
    → ((i : ℕ) → Has thirds i ↔ IsNeededOutside g w.exports i) → AreEnds (Uses g) (Has thirds) outside
    → ((i : ℕ) → Has w.exports i → Has keys i) → ((i : ℕ) → Has outside i → Has keys i → ⊥) → (i : ℕ) → IsConflict g w i → ⊥
no_conflict g w thirds outside keys third ends key none i c =
    none i (ends.all i c.1.0 ((third c.1.0).1 c.1.1) c.1.2) (key i c.0)

pub conflict : (g : Rows) (w : Lists) (thirds outside keys : List ℕ)
    → ((i : ℕ) → Has thirds i ↔ IsNeededOutside g w.exports i) → AreEnds (Uses g) (Has thirds) outside
    → ((i : ℕ) → Has keys i → Has w.exports i) → (i : ℕ) → Has outside i × Has keys i → IsConflict g w i
conflict g w thirds outside keys third ends key i h =
    let o = ends.only i h.0 in (key i h.1, (o.0, (third o.0).0 o.1, o.2))

-- what is reached from one interface alone
pub from_one : (g : Rows) (i : ℕ) (starts order : List ℕ) → starts ≡ i ∷ [] → AreEnds (Uses g) (Has starts) order → AreEnds (Uses g) (λ (s : ℕ). s ≡ i) order
from_one g i starts order e ends = record {
  all = λ j s same r. ends.all j s (subst (λ (l : List ℕ). Has l s) (sym e) (inl same)) r;
  only = λ j h. (let o = ends.only j h in (o.0, elim (subst (λ (l : List ℕ). Has l o.0) e o.1) as (λ _. o.0 ≡ i) [ inl same ↦ same | inr none ↦ absurd none ], o.2));
  rising = ends.rising;
}
