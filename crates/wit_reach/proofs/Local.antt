-- What a world's types are made of.
use Rattle.std.proofs.Common.{◌≡◌, ℕ, List, [], ◌∷◌, ◌<◌, ◌++◌, inl, inr, Some, true, refl, sym, subst, ◌∙◌, length, arith}
use Rattle.std.specs.Prelude.{slice_get}
use Rattle.wit_types.specs.declared.interface.TypeDef.{TypeDef}
use Rattle.wit_types.specs.declared.interface.TypeOwner.{TypeOwner}
use Rattle.wit_types.specs.declared.interface.TypeOwner.TheVariants as belongs
use Rattle.wit_types.specs.Passed.wit_order-Order.{Has}
use Rattle.wit_types.proofs.Passed.wit_order-Lists.{has_last, has_was, has_more}
use Rattle.wit_reach.specs.Paths.{IsPath, AreEnds}
use Rattle.wit_reach.specs.Ids.{kind_ids}
use Rattle.wit_reach.proofs.Lists.{has_parts, rising_append}
use Rattle.wit_reach.proofs.Ends.{closed_ends}
use Rattle.wit_reach.specs.Types.{is_local, IsLocalAt, AreLocalOf, AreTypesBackward, AreTypesThere, UsesLocal}
use Rattle.wit_reach.specs.Made.{is_open, IsMadeOfWithin}

-- what a type is made of is there
pub used_there : (ds : List TypeDef) (i : ℕ) (d : TypeDef) (ids : List ℕ) → AreTypesBackward ds → i < length ds → slice_get ds i ≡ Some d → ids ≡ kind_ids d.kind → AreTypesThere ds ids
used_there ds i d ids back l there e = λ j h.
    let below : j < i = back i j (d, there, subst (λ (l : List ℕ). Has l j) e h) in
    omega arith

-- what both sides of a world are made of is there
pub sides_there : (ds : List TypeDef) (imports exports ids : List ℕ) → ids ≡ imports ++ exports → AreTypesThere ds imports → AreTypesThere ds exports → AreTypesThere ds ids
sides_there ds imports exports ids e there more = λ i h.
    elim (has_parts imports exports i (subst (λ (l : List ℕ). Has l i) e h)) as (λ _. i < length ds) [ inl a ↦ there i a | inr b ↦ more i b ]

-- ends of paths from the same starts
pub same_ends : (uses : ℕ → ℕ → Type 0) (P Q : ℕ → Type 0) (order : List ℕ) → ((s : ℕ) → P s → Q s) → ((s : ℕ) → Q s → P s) → AreEnds uses P order → AreEnds uses Q order
same_ends uses P Q order there back ends = record {
  all = λ i s q r. ends.all i s (back s q) r;
  only = λ i h. (let o = ends.only i h in (o.0, there o.0 o.1, o.2));
  rising = ends.rising;
}

-- what a path from a local type reaches is local
pub stays_local : (w : ℕ) (ds : List TypeDef) (a : ℕ) (via : List ℕ) (b : ℕ) → IsLocalAt w ds a → IsPath (UsesLocal w ds) a via b → IsLocalAt w ds b
stays_local w ds a via b l p = closed_ends (UsesLocal w ds) (IsLocalAt w ds) (λ i j m u. u.1) a via b l p

-- ---- what a world sees of what it uses

open_local : (w : ℕ) (o : TypeOwner) → is_open (belongs.World w) o ≡ is_local w o
open_local w (belongs.World v) = refl
open_local w (belongs.Interface i) = refl
open_local w belongs.None = refl

local_seen : (w : ℕ) (ds : List TypeDef) (a : ℕ) (via : List ℕ) (b : ℕ) → IsLocalAt w ds a → IsPath (UsesLocal w ds) a via b → IsPath (IsMadeOfWithin (belongs.World w) ds) a via b
local_seen w ds a [] b l p = p
local_seen w ds a (k ∷ via) b l p =
    let d : TypeDef = p.0.0.0 in
    let same : l.0 ≡ d = let t = l.1 in let u = p.0.0.1 in cc in
    let into : is_open (belongs.World w) d.owner ≡ true = open_local w d.owner ∙ subst (λ (x : TypeDef). is_local w x.owner ≡ true) same l.2 in
    ((d, p.0.0.1, into, p.0.0.2), local_seen w ds k via b p.0.1 p.1)

seen_local : (w : ℕ) (ds : List TypeDef) (a : ℕ) (via : List ℕ) (b : ℕ) → IsLocalAt w ds b → IsPath (IsMadeOfWithin (belongs.World w) ds) a via b → IsLocalAt w ds a × IsPath (UsesLocal w ds) a via b
seen_local w ds a [] b l p = (subst (IsLocalAt w ds) (sym p) l, p)
seen_local w ds a (k ∷ via) b l p =
    let rest = seen_local w ds k via b l p.1 in
    let d : TypeDef = p.0.0 in
    ((d, p.0.1, sym (open_local w d.owner) ∙ p.0.2), (((d, p.0.1, p.0.3), rest.0), rest.1))

-- of all that it sees what is local is what local types use
pub local_ends : (w : ℕ) (ds : List TypeDef) (ids seen order : List ℕ) → AreEnds (IsMadeOfWithin (belongs.World w) ds) (Has ids) seen → AreLocalOf w ds seen order
    → AreEnds (UsesLocal w ds) (λ (s : ℕ). Has ids s × IsLocalAt w ds s) order
local_ends w ds ids seen order ends found = record {
  all = λ i s h r. found.all i (ends.all i s h.0 (r.0, local_seen w ds s r.0 i h.1 r.1)) (stays_local w ds s r.0 i h.1 r.1);
  only = λ i h.
      let f = found.only i h in
      let o = ends.only i f.0 in
      let p = seen_local w ds o.0 o.2.0 i f.1 o.2.1 in
      (o.0, (o.1, p.0), (o.2.0, p.1));
  rising = found.rising;
}

-- ---- one type more, behind the others

module _ (w : ℕ) (ds : List TypeDef) (done found : List ℕ) (r : ℕ) where
  pub local_more : ((y : ℕ) → Has done y → y < r) → IsLocalAt w ds r → AreLocalOf w ds done found → AreLocalOf w ds (done ++ r ∷ []) (found ++ r ∷ [])
  local_more above local f = record {
    all = λ i h l. elim (has_more done r i h) as (λ _. Has (found ++ r ∷ []) i) [
      | inl e ↦ subst (Has (found ++ r ∷ [])) (sym e) (has_last found r)
      | inr was ↦ has_was found (r ∷ []) i (f.all i was l)
    ];
    only = λ i h. elim (has_more found r i h) as (λ _. Has (done ++ r ∷ []) i × IsLocalAt w ds i) [
      | inl e ↦ subst (λ (z : ℕ). Has (done ++ r ∷ []) z × IsLocalAt w ds z) (sym e) (has_last done r, local)
      | inr was ↦ (has_was done (r ∷ []) i (f.only i was).0, (f.only i was).1)
    ];
    rising = rising_append found r f.rising (λ y h. above y (f.only y h).0);
  }

  pub local_less : (IsLocalAt w ds r → ⊥) → AreLocalOf w ds done found → AreLocalOf w ds (done ++ r ∷ []) found
  local_less other f = record {
    all = λ i h l. elim (has_more done r i h) as (λ _. Has found i) [ inl e ↦ absurd (other (subst (IsLocalAt w ds) e l)) | inr was ↦ f.all i was l ];
    only = λ i h. (has_was done (r ∷ []) i (f.only i h).0, (f.only i h).1);
    rising = f.rising;
  }
