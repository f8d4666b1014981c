use Rattle.std.proofs.Common.{◌∙◌, ◌++◌, ◌∷◌, [], ap}
use Rattle.std.proofs.lemmas.List.{map-id}
use Rattle.component_encoding.proofs.Lifted.{lifts, lifting_of}
use Rattle.component_encoding.proofs.PlacedLifts.{lift_placed}
use Rattle.component_encoding.proofs.exports.add_lift.Goals as goal

pub returns-clause-lifts : goal.returns-clause-lifts
returns-clause-lifts c = λ main tree typed.
    lifts main c.args.builder.now c.add.new.self c.add-2.new.self c.args.name.now c.args.core_function c.args.options.items c.args.ty c.in_ok-index.index tree
    (c.in_ok-index.ensures.added ∙ ap (λ os. c.args.builder.now ++ lifting_of c.args.core_function os c.args.ty ∷ []) (map-id c.args.options.items)) c.in_ok-index.ensures.index c.in_ok-add.ensures.added typed

pub returns-clause-placed : goal.returns-clause-placed
returns-clause-placed c = λ main l o tree item i typed there are single.
    lift_placed main c.args.builder.now l o c.add.new.self c.add-2.new.self c.args.name.now c.args.core_function c.args.ty c.in_ok-index.index i c.args.options.items tree item
    (c.in_ok-index.ensures.added ∙ ap (λ os. c.args.builder.now ++ lifting_of c.args.core_function os c.args.ty ∷ []) (map-id c.args.options.items)) (c.in_ok-index.ensures.index) c.in_ok-add.ensures.added typed there are single
