-- The tree that is written for a type has its core type.
use Rattle.std.proofs.Common.{◌≡◌, Bool, ◌||◌, ◌&&◌, List, [], ◌∷◌, refl, ap}
use Rattle.wasm_types.specs.declared.types.ValType.{ValType}
use Rattle.linked_types.specs.Passed.wit_types-declared-mangling-AbiVariant.{AbiVariant}
use Rattle.flat_types.specs.Signature.{required_of}
use Rattle.type_writing.specs.Passed.type_meaning-Tree.{Kind, Parts, named, resource, of, none, gap, part}
use Rattle.type_writing.specs.Passed.type_meaning-Words.{Label}
use Rattle.type_writing.specs.Unfolding.{OwnName, WitTree}
use Rattle.type_writing.specs.Writing.{written, written_parts}
use Rattle.flat_trees.specs.Flat.{flat_kind, flat, flat_parts, signature_by, signature}
use Rattle.flat_trees.specs.Held.{is_string, is_list, holds_its_parts, holds, one_holds, result_holds, params_hold, required}
use Rattle.flat_trees.specs.Law.{WrittenTreesKeepCoreTypes}

module _ (label : OwnName → Label) where
  mutual
    flat_is : (t : WitTree) → flat (written label t) ≡ flat t
    flat_is (named n t) = flat_is t
    flat_is (resource r) = refl
    flat_is (of form ps) = ap (flat_kind form.kind form.number) (each_is ps)

    each_is : (ps : Parts OwnName OwnName) → flat_parts (written_parts label ps) ≡ flat_parts ps
    each_is none = refl
    each_is (gap ps) = ap (λ (l : List (List ValType)). [] ∷ l) (each_is ps)
    each_is (part t ps) = (let e = flat_is t in let f = each_is ps in λ i. e i ∷ f i)

  module _ (test : Kind → Bool) where
    mutual
      holds_is : (t : WitTree) → holds test (written label t) ≡ holds test t
      holds_is (named n t) = holds_is t
      holds_is (resource r) = refl
      holds_is (of form ps) = ap (λ (b : Bool). test form.kind || (holds_its_parts form.kind && b)) (one_is ps)

      one_is : (ps : Parts OwnName OwnName) → one_holds test (written_parts label ps) ≡ one_holds test ps
      one_is none = refl
      one_is (gap ps) = one_is ps
      one_is (part t ps) = (let e = holds_is t in let f = one_is ps in λ i. e i || f i)

    result_is : (ps : Parts OwnName OwnName) → result_holds test (written_parts label ps) ≡ result_holds test ps
    result_is none = refl
    result_is (gap ps) = refl
    result_is (part t ps) = holds_is t

    params_is : (ps : Parts OwnName OwnName) → params_hold test (written_parts label ps) ≡ params_hold test ps
    params_is none = refl
    params_is (gap ps) = one_is ps
    params_is (part t ps) = one_is ps

  signature_is : (variant : AbiVariant) (t : WitTree) → signature variant (written label t) ≡ signature variant t
  signature_is variant (named n t) = signature_is variant t
  signature_is variant (resource r) = refl
  signature_is variant (of form ps) = ap (signature_by variant) (each_is ps)

  required_is : (variant : AbiVariant) (t : WitTree) → required variant (written label t) ≡ required variant t
  required_is variant (named n t) = required_is variant t
  required_is variant (resource r) = refl
  required_is variant (of form ps) =
      let s = signature_is variant (of form ps) in
      let a = params_is is_string ps in
      let b = params_is is_list ps in
      let c = result_is is_string ps in
      let d = result_is is_list ps in
      λ i. required_of variant (a i) (b i) (c i) (d i) (s i).indirect_params (s i).retptr

pub written_keep : WrittenTreesKeepCoreTypes
written_keep label variant t = (signature_is label variant t, required_is label variant t)
