-- A name is changed to one alone, which has no marks where those to which names are changed have none.
use Rattle.std.proofs.Common.{◌≡◌, ◌≢◌, ℕ, ◌<◌, Bool, true, false, List, [], ◌∷◌, ◌++◌, inl, inr, get_or, refl, sym, subst, ap, ◌∙◌, arith}
use Rattle.std.proofs.lemmas.List.Elements.{recursion_from_All}
use Rattle.std.specs.Prelude.{All, codes, string_bytes, bytes_eq, if◌then◌else◌}
use Rattle.std.specs.List.{AllByRecursion as Each}
use Rattle.wit_joined.specs.Passed.wit_types-declared-world-IncludeName.{IncludeName}
use Rattle.wit_joined.specs.Passed.wit_types-Function.{HasNoDot}
use Rattle.wit_joined.specs.Passed.wit_sides-Renames.{through, IsRenamedFunction, of_resource, of_none, HasNoMark, IsRenamed, constructor_of, method_of, static_of, plain}
use Rattle.wit_plain_texts.specs.Plain.{IsWithout, IsPlain}
use Rattle.wit_plain_texts.proofs.Scopes.{joined_plain, method_mark, static_mark, constructor_mark}
use Rattle.wit_order.specs.Order.{Has}
use Rattle.wit_labels.specs.Named.{ArePlainChanges}

-- ---- one alone

abbrev NoDot : List ℕ → Type 0
NoDot text = Each (λ (b : ℕ). b ≢ 46) text

-- what stands before the first dot
split_one : (r s i j : List ℕ) → NoDot r → NoDot s → r ++ 46 ∷ i ≡ s ++ 46 ∷ j → (r ≡ s) × (i ≡ j)
split_one [] [] i j none other e = (refl, (let same : i ≡ j = cc in same))
split_one [] (c ∷ s) i j none other e = absurd (let first : c ≡ 46 = cc in other.0 first)
split_one (b ∷ r) [] i j none other e = absurd (let first : b ≡ 46 = cc in none.0 first)
split_one (b ∷ r) (c ∷ s) i j none other e =
    let first : b ≡ c = cc in
    let rest : r ++ 46 ∷ i ≡ s ++ 46 ∷ j = cc in
    let both = split_one r s i j none.1 other.1 rest in
    let ends = both.0 in
    ((let same : b ∷ r ≡ c ∷ s = cc in same), both.1)

has_dot : (r i : List ℕ) → NoDot (r ++ 46 ∷ i) → ⊥
has_dot [] i none = none.0 refl
has_dot (b ∷ r) i none = has_dot r i none.1

no_dot : (text : List ℕ) → HasNoDot text → NoDot text
no_dot text h = recursion_from_All (λ (b : ℕ). b ≢ 46) text h

function_one : (names : List IncludeName) (mark x z y w : List ℕ) → x ≡ z → IsRenamedFunction names mark x y → IsRenamedFunction names mark z w → y ≡ w
function_one names mark _ _ _ _ e (of_resource r i none) (of_resource s j other) =
    let both = split_one r s i j (no_dot r none) (no_dot s other) e in
    ap (λ (t : List ℕ). mark ++ (through names t ++ 46 ∷ i)) both.0 ∙ ap (λ (t : List ℕ). mark ++ (through names s ++ 46 ∷ t)) both.1
function_one names mark _ _ _ _ e (of_resource r i none) (of_none z other) = absurd (has_dot r i (subst NoDot (sym e) (no_dot z other)))
function_one names mark _ _ _ _ e (of_none x none) (of_resource s j other) = absurd (has_dot s j (subst NoDot e (no_dot x none)))
function_one names mark _ _ _ _ e (of_none x none) (of_none z other) = ap (λ (t : List ℕ). mark ++ t) e

-- marks differ at the second byte
second : (x z : List ℕ) (b c : ℕ) → get_or x 1 0 ≡ b → get_or z 1 0 ≡ c → x ≡ z → b ≡ c
second x z b c at_x at_z e = sym at_x ∙ ap (λ (t : List ℕ). get_or t 1 0) e ∙ at_z

behind_constructor : (r s : List ℕ) → codes "[constructor]" ++ r ≡ codes "[constructor]" ++ s → r ≡ s
behind_constructor r s e = cc

behind_method : (r s : List ℕ) → codes "[method]" ++ r ≡ codes "[method]" ++ s → r ≡ s
behind_method r s e = cc

behind_static : (r s : List ℕ) → codes "[static]" ++ r ≡ codes "[static]" ++ s → r ≡ s
behind_static r s e = cc

no_constructor_method : (r s : List ℕ) → codes "[constructor]" ++ r ≡ codes "[method]" ++ s → ⊥
no_constructor_method r s e = (let h : 99 ≡ 109 = second (codes "[constructor]" ++ r) (codes "[method]" ++ s) 99 109 refl refl e in absurd (omega (arith, h)))

no_constructor_static : (r s : List ℕ) → codes "[constructor]" ++ r ≡ codes "[static]" ++ s → ⊥
no_constructor_static r s e = (let h : 99 ≡ 115 = second (codes "[constructor]" ++ r) (codes "[static]" ++ s) 99 115 refl refl e in absurd (omega (arith, h)))

no_method_static : (r s : List ℕ) → codes "[method]" ++ r ≡ codes "[static]" ++ s → ⊥
no_method_static r s e = (let h : 109 ≡ 115 = second (codes "[method]" ++ r) (codes "[static]" ++ s) 109 115 refl refl e in absurd (omega (arith, h)))

pub renamed_one : (names : List IncludeName) (x z y w : List ℕ) → x ≡ z → IsRenamed names x y → IsRenamed names z w → y ≡ w
renamed_one names _ _ _ _ e (constructor_of r) (constructor_of s) = ap (λ (t : List ℕ). codes "[constructor]" ++ through names t) (behind_constructor r s e)
renamed_one names _ _ _ _ e (constructor_of r) (method_of s w h) = absurd (no_constructor_method r s e)
renamed_one names _ _ _ _ e (constructor_of r) (static_of s w h) = absurd (no_constructor_static r s e)
renamed_one names _ _ _ _ e (constructor_of r) (plain z c m t) = absurd (c r (sym e))
renamed_one names _ _ _ _ e (method_of r y g) (constructor_of s) = absurd (no_constructor_method s r (sym e))
renamed_one names _ _ _ _ e (method_of r y g) (method_of s w h) = function_one names (codes "[method]") r s y w (behind_method r s e) g h
renamed_one names _ _ _ _ e (method_of r y g) (static_of s w h) = absurd (no_method_static r s e)
renamed_one names _ _ _ _ e (method_of r y g) (plain z c m t) = absurd (m r (sym e))
renamed_one names _ _ _ _ e (static_of r y g) (constructor_of s) = absurd (no_constructor_static s r (sym e))
renamed_one names _ _ _ _ e (static_of r y g) (method_of s w h) = absurd (no_method_static s r (sym e))
renamed_one names _ _ _ _ e (static_of r y g) (static_of s w h) = function_one names (codes "[static]") r s y w (behind_static r s e) g h
renamed_one names _ _ _ _ e (static_of r y g) (plain z c m t) = absurd (t r (sym e))
renamed_one names _ _ _ _ e (plain x c m t) (constructor_of s) = absurd (c s e)
renamed_one names _ _ _ _ e (plain x c m t) (method_of s w h) = absurd (m s e)
renamed_one names _ _ _ _ e (plain x c m t) (static_of s w h) = absurd (t s e)
renamed_one names _ _ _ _ e (plain x c m t) (plain z d n u) = ap (through names) e

-- ---- without marks

has_behind : (a b : List ℕ) (x : ℕ) → Has b x → Has (a ++ b) x
has_behind [] b x h = h
has_behind (c ∷ a) b x h = inr (has_behind a b x h)

has_front : (a b : List ℕ) (x : ℕ) → Has a x → Has (a ++ b) x
has_front [] b x h = absurd h
has_front (c ∷ a) b x (inl here) = inl here
has_front (c ∷ a) b x (inr more) = inr (has_front a b x more)

plain_behind : (a b : List ℕ) → IsPlain (a ++ b) → IsPlain b
plain_behind a b is = record { colon = λ h. is.colon (has_behind a b 58 h); slash = λ h. is.slash (has_behind a b 47 h); at = λ h. is.at (has_behind a b 64 h) }

plain_front : (a b : List ℕ) → IsPlain (a ++ b) → IsPlain a
plain_front a b is = record { colon = λ h. is.colon (has_front a b 58 h); slash = λ h. is.slash (has_front a b 47 h); at = λ h. is.at (has_front a b 64 h) }

through_plain : (names : List IncludeName) (x : List ℕ) → ArePlainChanges names → IsPlain x → IsPlain (through names x)
through_plain [] x are is = is
through_plain (n ∷ names) x are is = elim (bytes_eq x (string_bytes n.name)) as (λ b. IsPlain (if b then string_bytes n.as_ else through names x)) [ true ↦ are.0 | _ ↦ through_plain names x are.1 is ]

function_plain : (names : List IncludeName) (mark x y : List ℕ) → ArePlainChanges names → IsPlain mark → IsRenamedFunction names mark x y → IsPlain x → IsPlain y
function_plain names mark _ _ are m (of_resource r i none) is =
    joined_plain mark (through names r ++ 46 ∷ i) m (joined_plain (through names r) (46 ∷ i) (through_plain names r are (plain_front r (46 ∷ i) is)) (plain_behind r (46 ∷ i) is))
function_plain names mark _ _ are m (of_none x none) is = joined_plain mark x m is

pub renamed_plain : (names : List IncludeName) (x y : List ℕ) → ArePlainChanges names → IsRenamed names x y → IsPlain x → IsPlain y
renamed_plain names _ _ are (constructor_of r) is = joined_plain (codes "[constructor]") (through names r) constructor_mark (through_plain names r are (plain_behind (codes "[constructor]") r is))
renamed_plain names _ _ are (method_of r y g) is = function_plain names (codes "[method]") r y are method_mark g (plain_behind (codes "[method]") r is)
renamed_plain names _ _ are (static_of r y g) is = function_plain names (codes "[static]") r y are static_mark g (plain_behind (codes "[static]") r is)
renamed_plain names _ _ are (plain x c m t) is = through_plain names x are is
