use Rattle.std.proofs.Common.{rules, ◌≡◌, ◌∷◌, [], ◌++◌, length, ap, sym, ◌∙◌}
use Rattle.std.specs.List.{flat_map}
use Rattle.binary_grammar.specs.Syntax.{u32_bytes}
use Rattle.component_builder.specs.Pieces.{piece_bytes, pieces_bytes}
use Rattle.component_builder.proofs.Modules.{module_spelled, arranged}
use Rattle.component_builder.proofs.pieces.Pieces.put_module.Goals as goal

pub returns-clause-bytes : goal.returns-clause-bytes
returns-clause-bytes c =
    let xs = c.args.bytes.now in
    let done = flat_map piece_bytes c.args.self.now.done.items in
    let begun = c.args.self.now.open.items in
    let size : c.in-Ok.size ≡ length xs = search rules in
    let made : c.put_number.new.out.items ≡ (begun ++ 1 ∷ []) ++ u32_bytes (length xs) = c.in_ok-put_number.ensures.bytes ∙ ap (λ s. s ++ u32_bytes c.in-Ok.size) c.in_ok-push.ensures.items ∙ ap (λ n. (begun ++ 1 ∷ []) ++ u32_bytes n) size in
    c.in_ok-lend.ensures.bytes ∙ ap (λ s. (done ++ s) ++ xs) made ∙ arranged done begun (u32_bytes (length xs)) xs ∙ ap (λ s. (done ++ begun) ++ s) (sym (module_spelled xs))
