use Rattle.std.specs.Prelude.{slice_get}
use Rattle.std.proofs.Common.{◌≡◌, ℕ, List, Some, take, length, ◌++◌, ◌∷◌, [], sym, subst, ap, ◌∙◌, append_assoc}
use Rattle.std.proofs.lemmas.List.{append-nil}
use Rattle.wit_resources.specs.Natures.{kind_nature, natures, AreOfFirst}
use Rattle.wit_resources.specs.declared.natures.Nature.{Nature}
use Rattle.wit_resources.proofs.Counting.{of_first, of_more}
use Rattle.wit_resources.proofs.natures.Natures.follow.Goals as goal

pub loop-index-init : goal.loop-index-init
loop-index-init c = (
  of_first c.args.types.now c.self.inside.known.items (subst (AreOfFirst c.args.types.now) (sym c.self.view_is) c.requires)
      ∙ ap (λ (ns : List Nature). natures (take (length ns) c.args.types.now)) (sym c.as_slice-index.ensures.value),
  ([], sym (append-nil c.self.inside.known.items)),
)

pub loop-index-preserved : goal.loop-index-preserved
loop-index-preserved c =
    let known : List Nature = c.loop-index.self-inside.known.items in
    let nature = c.of_kind-nature.ensures ∙ ap (λ (ns : List Nature). kind_nature ns c.get-def.result.now.kind) c.as_slice.ensures.value in
    let more : List Nature = c.loop-index.invariant.1.0 in (
      c.in_ok-push.ensures.items ∙ ap (λ (n : Nature). known ++ n ∷ []) nature
          ∙ of_more c.args.types.now known c.loop-index.index c.get-def.result.now (subst (λ (i : ℕ). slice_get c.args.types.now i ≡ Some c.get-def.result.now) c.from_index.ensures c.get-def.ensures) c.loop-index.invariant.0,
      (
        more ++ c.of_kind-nature.result ∷ [],
        c.in_ok-push.ensures.items ∙ ap (λ (ns : List Nature). ns ++ c.of_kind-nature.result ∷ []) c.loop-index.invariant.1.1 ∙ append_assoc _ more (c.of_kind-nature.result ∷ []),
      ),
    )
