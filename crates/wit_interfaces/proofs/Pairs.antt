-- Maps that are made of pairs.
use Rattle.std.proofs.Common.{◌≡◌, ℕ, ◌<◌, true, List, Some, None, take, sym, ap, ◌∙◌, arith}
use Rattle.std.proofs.lemmas.Option.{same_Some, slice_get-map}
use Rattle.std.proofs.lemmas.Slice.Eq.{bytes_eq-Decides}
use Rattle.std.specs.Prelude.{String, slice_get, option_map, string_bytes, string_eq}
use Rattle.std.specs.declared.alloc.Global.{Global}
use Rattle.wit_types.specs.declared.function.Function.{Function}
use Rattle.wit_arena.specs.Tree.{Name}
use Rattle.wit_arena.specs.Table.{Entries}
use Rattle.wit_resolved_scopes.specs.Each.{AreApartBy}
use Rattle.wit_interfaces.specs.Interfaces.{named_types, functions_in, AreNamed}
use Rattle.std.specs.Map.{lookup}
use Rattle.wit_resolved_scopes.proofs.Orders.{at_taken}
use Rattle.wit_resolved_scopes.proofs.Keying.{not_looked_up}

-- a type's name is none of those in front of it
pub type_new : (es : List (String Global × ℕ)) (table : Entries) (n : ℕ) → named_types es ≡ take n table → AreApartBy (λ e. e.0) table
    → (k : String Global) (e : Name × ℕ) → slice_get table n ≡ Some e → string_bytes k ≡ e.0 → lookup (string_eq k) es ≡ None
type_new es table n are apart k e there named =
    let entry : String Global × ℕ → Name × ℕ = λ e. (string_bytes e.0, e.1) in
    not_looked_up string_eq k es (λ i q at t.
    let w = at_taken table i n (entry q) (ap (λ (t : Entries). slice_get t i) (sym are) ∙ slice_get-map entry es i ∙ ap (option_map entry) at) in
    let same : n ≡ i = apart n i e (entry q) there w.1 (sym named ∙ (bytes_eq-Decides (string_bytes k) (string_bytes q.0)).0 t) in
    let less : i < n = w.0 in
    omega (arith, same, less))

-- functions whose names are
pub functions_apart : (es : List (String Global × Function)) (fs : List Function) → functions_in es ≡ fs → AreNamed es → AreApartBy (λ f. string_bytes f.name) fs
    → (i j : ℕ) (p q : String Global × Function) → slice_get es i ≡ Some p → slice_get es j ≡ Some q → string_eq p.0 q.0 ≡ true → i ≡ j
functions_apart es fs are named apart i j p q at_i at_j same =
    apart i j p.1 q.1 (ap (λ (gs : List Function). slice_get gs i) (sym are) ∙ slice_get-map (λ (e : String Global × Function). e.1) es i ∙ ap (option_map (λ (e : String Global × Function). e.1)) at_i)
    (ap (λ (gs : List Function). slice_get gs j) (sym are) ∙ slice_get-map (λ (e : String Global × Function). e.1) es j ∙ ap (option_map (λ (e : String Global × Function). e.1)) at_j)
    (sym (own p i at_i) ∙ (bytes_eq-Decides (string_bytes p.0) (string_bytes q.0)).0 same ∙ own q j at_j)
  where
    own : (e : String Global × Function) (k : ℕ) → slice_get es k ≡ Some e → string_bytes e.0 ≡ string_bytes e.1.name
    own e k at =
        same_Some (string_bytes e.0) (string_bytes e.1.name)
        (sym (slice_get-map (λ (z : String Global × Function). string_bytes z.0) es k ∙ ap (option_map (λ (z : String Global × Function). string_bytes z.0)) at) ∙ ap (λ (ns : List Name). slice_get ns k) named ∙ slice_get-map (λ (z : String Global × Function). string_bytes z.1.name) es k
        ∙ ap (option_map (λ (z : String Global × Function). string_bytes z.1.name)) at)
