-- Interfaces that have a package and a name.
use Rattle.std.proofs.Common.{◌≡◌, ℕ, suc, ◌+◌, List, [], ◌∷◌, ◌++◌, Option, Some, None, String, refl, sym, ap, ◌∙◌, arith, length}
use Rattle.std.specs.Prelude.{slice_get, string_bytes}
use Rattle.std.specs.declared.alloc.Global.{Global}
use Rattle.wit_types.specs.Package.{interface_text}
use Rattle.wit_types.specs.declared.interface.Interface.{Interface}
use Rattle.wit_types.specs.declared.«package».Package.{Package}
use Rattle.wit_labels.proofs.Passed.wit_arena-Lists.{get_kept, get_last}
use Rattle.wit_names.specs.Names.{text_at, named_in}
use Rattle.wit_item_names.specs.Used.{IsNamed}

pub get_behind : {X : Type 0} (xs ys : List X) (k : ℕ) → slice_get (xs ++ ys) (length xs + k) ≡ slice_get ys k
get_behind [] ys k = ap (slice_get ys) (omega arith)
get_behind (x ∷ xs) ys k = (let e : length (x ∷ xs) + k ≡ suc (length xs + k) = omega arith in ap (slice_get (x ∷ (xs ++ ys))) e ∙ get_behind xs ys k)

-- they still have with more behind
text_more : (packages more : List Package) (p : Option ℕ) (n : Option (String Global)) (t : List ℕ) → Some t ≡ named_in interface_text packages p n → Some t ≡ named_in interface_text (packages ++ more) p n
text_more packages more p None t e = absurd cc
text_more packages more None (Some x) t e = absurd cc
text_more packages more (Some p) (Some x) t e = by (slice_get packages p) refl e
  where
    by : (o : Option Package) → slice_get packages p ≡ o → Some t ≡ text_at interface_text o (string_bytes x) → Some t ≡ text_at interface_text (slice_get (packages ++ more) p) (string_bytes x)
    by None at h = absurd cc
    by (Some a) at h = h ∙ ap (λ (o : Option Package). text_at interface_text o (string_bytes x)) (sym (get_kept packages more p a at))

pub named_more : (packages more : List Package) (interfaces new : List Interface) (j : ℕ) → IsNamed packages interfaces j → IsNamed (packages ++ more) (interfaces ++ new) j
named_more packages more interfaces new j (t, (d, at, e)) = (t, (d, get_kept interfaces new j d at, text_more packages more d.«package» d.name t e))

-- and so does one with a name that a package brings
pub new_named : (packages : List Package) (q : Package) (interfaces new : List Interface) (k : ℕ) (d : Interface) (x : String Global) → slice_get new k ≡ Some d → d.«package» ≡ Some (length packages) → d.name ≡ Some x
    → IsNamed (packages ++ q ∷ []) (interfaces ++ new) (length interfaces + k)
new_named packages q interfaces new k d x at of named = (
  interface_text q.name (string_bytes x),
  (
    d,
    get_behind interfaces new k ∙ at,
    sym (ap (λ (n : Option (String Global)). named_in interface_text (packages ++ q ∷ []) d.«package» n) named ∙ ap (λ (p : Option ℕ). named_in interface_text (packages ++ q ∷ []) p (Some x)) of
        ∙ ap (λ (o : Option Package). text_at interface_text o (string_bytes x)) (get_last packages q)),
  ),
)
