-- What is asked for of other packages, as it is gone through.
use Rattle.std.proofs.Common.{◌≡◌, ◌≢◌, ℕ, ◌<◌, zero, suc, Bool, cond, List, [], ◌∷◌, ◌++◌, Option, Some, None, map, take, refl, sym, ap, subst, ◌∙◌, inl, inr, arith}
use Rattle.std.proofs.lemmas.Bool.{cases_Bool}
use Rattle.std.proofs.lemmas.Option.{same_Some}
use Rattle.std.proofs.lemmas.Slice.Eq.{bytes_eq-Decides}
use Rattle.std.specs.Prelude.{slice_get, bytes_eq, unwrap_or}
use Rattle.wit_rules.specs.Breaks.{IsKept}
use Rattle.wit_lookups.specs.declared.asks.Asked.{Asked}
use Rattle.wit_lookups.specs.Names.{Name}
use Rattle.wit_lookups.specs.Lookups.{AskTree, AsksBreak}
use Rattle.wit_lookups.specs.Asking.{or_asked, asked_under}

-- as what something is asked for first
abbrev pub first_of : List AskTree → Name → Option Asked
first_of [] t = None
first_of (a ∷ more) t = or_asked (asked_under a.text a.asked t) (first_of more t)

or_assoc : (a b c : Option Asked) → or_asked (or_asked a b) c ≡ or_asked a (or_asked b c)
or_assoc None b c = refl
or_assoc (Some a) b c = refl

or_none : (a : Option Asked) → or_asked a None ≡ a
or_none None = refl
or_none (Some a) = refl

first_of_push : (xs : List AskTree) (a : AskTree) (t : Name) → first_of (xs ++ a ∷ []) t ≡ or_asked (first_of xs t) (asked_under a.text a.asked t)
first_of_push [] a t = or_none (asked_under a.text a.asked t)
first_of_push (x ∷ xs) a t = ap (or_asked (asked_under x.text x.asked t)) (first_of_push xs a t) ∙ sym (or_assoc (asked_under x.text x.asked t) (first_of xs t) (asked_under a.text a.asked t))

under_itself : (text : Name) (asked : Asked) → asked_under text asked text ≡ Some asked
under_itself text asked = ap (λ (b : Bool). cond b (Some asked) None) ((bytes_eq-Decides text text).1 refl)

or_unwrap : (o : Option Asked) (a : Asked) → or_asked o (Some a) ≡ Some (unwrap_or o a)
or_unwrap None a = refl
or_unwrap (Some b) a = refl

-- each is asked for as it is first
abbrev pub Agree : List AskTree → Type 0
Agree asks = (i : ℕ) (one : AskTree) → slice_get asks i ≡ Some one → first_of asks one.text ≡ Some one.asked

-- what stands in a list and one more stands in the list, or is that one
last_or : (xs : List AskTree) (a one : AskTree) (i : ℕ) → slice_get (xs ++ a ∷ []) i ≡ Some one → (P : Type 0) → (slice_get xs i ≡ Some one → P) → (a ≡ one → P) → P
last_or [] a one zero h P before last = last (same_Some a one h)
last_or [] a one (suc i) h P before last = absurd cc
last_or (x ∷ xs) a one zero h P before last = before h
last_or (x ∷ xs) a one (suc i) h P before last = last_or xs a one i h P before last

-- what was gone through, and what is known of it
pub record AskedSoFar (asks : List AskTree) (known : Name → Option Asked) : Type 0 where
  pub known_is : (t : Name) → known t ≡ first_of asks t
  pub agree : Agree asks

-- one more, which is asked for as it is first
pub asked_more : (xs : List AskTree) (a : AskTree) (old new : Name → Option Asked) → AskedSoFar xs old → ((t : Name) → new t ≡ or_asked (old t) (asked_under a.text a.asked t)) → unwrap_or (old a.text) a.asked ≡ a.asked
    → AskedSoFar (xs ++ a ∷ []) new
asked_more xs a old new so_far grown first =
    let last : first_of (xs ++ a ∷ []) a.text ≡ Some a.asked =
    first_of_push xs a a.text ∙ ap (or_asked (first_of xs a.text)) (under_itself a.text a.asked) ∙ or_unwrap (first_of xs a.text) a.asked
    ∙ ap (λ (o : Option Asked). Some (unwrap_or o a.asked)) (sym (so_far.known_is a.text)) ∙ ap (λ (k : Asked). Some k) first in
    record {
      known_is = λ t. grown t ∙ ap (λ (o : Option Asked). or_asked o (asked_under a.text a.asked t)) (so_far.known_is t) ∙ sym (first_of_push xs a t);
      agree = λ i one h. last_or xs a one i h (first_of (xs ++ a ∷ []) one.text ≡ Some one.asked)
          (λ before. first_of_push xs a one.text ∙ ap (λ (o : Option Asked). or_asked o (asked_under a.text a.asked one.text)) (so_far.agree i one before))
          (λ is. subst (λ (z : AskTree). first_of (xs ++ a ∷ []) z.text ≡ Some z.asked) is last);
    }

-- what is asked for first stands somewhere
first_at : (xs : List AskTree) (t : Name) (k : Asked) → first_of xs t ≡ Some k → (i : ℕ) × (a : AskTree) × (slice_get xs i ≡ Some a) × (a.text ≡ t) × (a.asked ≡ k)
first_at [] t k h = absurd cc
first_at (x ∷ xs) t k h = elim (cases_Bool (bytes_eq x.text t)) as (λ _. (i : ℕ) × (a : AskTree) × (slice_get (x ∷ xs) i ≡ Some a) × (a.text ≡ t) × (a.asked ≡ k)) [
  | inl e ↦ (zero, x, refl, (bytes_eq-Decides x.text t).0 e, same_Some x.asked k (sym (ap (λ (b : Bool). or_asked (cond b (Some x.asked) None) (first_of xs t)) e) ∙ h))
  | inr e ↦ (let r = first_at xs t k (sym (ap (λ (b : Bool). or_asked (cond b (Some x.asked) None) (first_of xs t)) e) ∙ h) in (suc r.0, r.1, r.2, r.3, r.4))
]

-- something that is asked for otherwise than first was asked for before
pub asked_otherwise : (xs : List AskTree) (a : AskTree) (old : Name → Option Asked) → AskedSoFar xs old → unwrap_or (old a.text) a.asked ≢ a.asked
    → (i : ℕ) × (b : AskTree) × (slice_get xs i ≡ Some b) × (a.text ≡ b.text) × (a.asked ≢ b.asked)
asked_otherwise xs a old so_far other = at_first (old a.text) refl
  where
    at_first : (o : Option Asked) → old a.text ≡ o → (i : ℕ) × (b : AskTree) × (slice_get xs i ≡ Some b) × (a.text ≡ b.text) × (a.asked ≢ b.asked)
    at_first None e = absurd (other (ap (λ (o : Option Asked). unwrap_or o a.asked) e))
    at_first (Some k) e =
        let r = first_at xs a.text k (sym (so_far.known_is a.text) ∙ e) in
        let differs : k ≢ a.asked = λ h. other (ap (λ (o : Option Asked). unwrap_or o a.asked) e ∙ h) in
        (r.0, r.1, r.2, sym r.3, (λ h. differs (sym (h ∙ r.4))))

-- where each is asked for as it is first, nothing is asked for as two things
pub agree_kept : (asks : List AskTree) → Agree asks → IsKept (AsksBreak asks)
agree_kept asks agree rule at b =
    b.differs (same_Some b.one.asked b.other.asked (sym (agree b.place b.one b.there) ∙ ap (first_of asks) b.same ∙ agree b.earlier b.other b.there_before))

-- what is known already stays as it is
pub known_stays : (old : Name → Option Asked) (text : Name) (asked first : Asked) → old text ≡ Some first → (t : Name) → old t ≡ or_asked (old t) (asked_under text asked t)
known_stays old text asked first known t = elim (cases_Bool (bytes_eq text t)) as (λ _. old t ≡ or_asked (old t) (asked_under text asked t)) [
  | inl e ↦ (let here : old t ≡ Some first = ap old (sym ((bytes_eq-Decides text t).0 e)) ∙ known in here ∙ sym (ap (λ (o : Option Asked). or_asked o (asked_under text asked t)) here))
  | inr e ↦ sym (ap (λ (b : Bool). or_asked (old t) (cond b (Some asked) None)) e ∙ or_none (old t))
]

pub known_anew : (old new : Name → Option Asked) (text : Name) (asked : Asked) → old text ≡ None → ((t : Name) → new t ≡ cond (bytes_eq text t) (Some asked) (old t)) → (t : Name) → new t ≡ or_asked (old t) (asked_under text asked t)
known_anew old new text asked absent update t = update t ∙ (elim (cases_Bool (bytes_eq text t)) as (λ _. cond (bytes_eq text t) (Some asked) (old t) ≡ or_asked (old t) (asked_under text asked t)) [
  | inl e ↦ (let none : old t ≡ None = ap old (sym ((bytes_eq-Decides text t).0 e)) ∙ absent in
      ap (λ (b : Bool). cond b (Some asked) (old t)) e ∙ sym (ap (λ (o : Option Asked). or_asked o (asked_under text asked t)) none ∙ ap (λ (b : Bool). cond b (Some asked) None) e))
  | inr e ↦ ap (λ (b : Bool). cond b (Some asked) (old t)) e ∙ sym (ap (λ (b : Bool). or_asked (old t) (cond b (Some asked) None)) e ∙ or_none (old t))
])

-- what stands among the first of a list
pub taken_at : {X Y : Type 0} (f : X → Y) (xs : List X) (i j : ℕ) (y : Y) → slice_get (map f (take i xs)) j ≡ Some y → (j < i) × (slice_get (map f xs) j ≡ Some y)
taken_at f [] zero j y h = absurd cc
taken_at f [] (suc i) j y h = absurd cc
taken_at f (x ∷ xs) zero j y h = absurd cc
taken_at f (x ∷ xs) (suc i) zero y h = (omega arith, h)
taken_at f (x ∷ xs) (suc i) (suc j) y h = (let r = taken_at f xs i j y h in let l : j < i = r.0 in (omega arith, r.1))
