-- What is known of types, one more at a time.
use Rattle.std.proofs.Common.{◌≡◌, ℕ, ◌+◌, ◌≤◌, List, [], ◌∷◌, ◌++◌, length, Some, take, refl, sym, ap, ◌∙◌, arith}
use Rattle.std.proofs.lemmas.List.{length_push, length-take}
use Rattle.std.specs.Prelude.{slice_get}
use Rattle.wit_types.specs.declared.interface.TypeDef.{TypeDef}
use Rattle.wit_rules.proofs.Places.{taken}
use Rattle.wit_resources.specs.Natures.{kind_nature, natures_from, natures, AreOfFirst}
use Rattle.wit_resources.specs.declared.natures.Nature.{Nature}

length_from : (done : List Nature) (ds : List TypeDef) → length (natures_from done ds) ≡ length done + length ds
length_from done [] = omega arith
length_from done (d ∷ ds) =
    let more : length (natures_from (done ++ kind_nature done d.kind ∷ []) ds) ≡ length (done ++ kind_nature done d.kind ∷ []) + length ds = length_from (done ++ kind_nature done d.kind ∷ []) ds in
    let one : length (done ++ kind_nature done d.kind ∷ []) ≡ length done + 1 = length_push done (kind_nature done d.kind) in
    omega (arith, more, one)

push_from : (done : List Nature) (ds : List TypeDef) (d : TypeDef) → natures_from done (ds ++ d ∷ []) ≡ natures_from done ds ++ kind_nature (natures_from done ds) d.kind ∷ []
push_from done [] d = refl
push_from done (e ∷ ds) d = push_from (done ++ kind_nature done e.kind ∷ []) ds d

length_taken : (ds : List TypeDef) (n : ℕ) → n ≤ length ds → length (take n ds) ≡ n
length_taken ds n le = omega (arith, length-take n ds)

-- what is known of the first types is known of as many as there are
pub of_first : (ds : List TypeDef) (ns : List Nature) → AreOfFirst ds ns → ns ≡ natures (take (length ns) ds)
of_first ds ns h =
    let all : length ns ≡ length (natures (take h.0 ds)) = ap length h.2 in
    let each : length (natures (take h.0 ds)) ≡ 0 + length (take h.0 ds) = length_from [] (take h.0 ds) in
    let first : length (take h.0 ds) ≡ h.0 = length_taken ds h.0 h.1 in
    let size : length ns ≡ h.0 = omega (arith, all, each, first) in
    h.2 ∙ ap (λ (n : ℕ). natures (take n ds)) (sym size)

pub of_more : (ds : List TypeDef) (ns : List Nature) (i : ℕ) (d : TypeDef) → slice_get ds i ≡ Some d → ns ≡ natures (take i ds) → ns ++ kind_nature ns d.kind ∷ [] ≡ natures (take (i + 1) ds)
of_more ds ns i d there are =
    ap (λ (ms : List Nature). ms ++ kind_nature ms d.kind ∷ []) are ∙ sym (push_from [] (take i ds) d) ∙ sym (ap natures (taken ds i d there))
