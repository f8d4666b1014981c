use Rattle.std.proofs.Common.{[], ◌∷◌, ◌++◌, ap, ◌∙◌}
use Rattle.wit_graph_worlds.specs.Worlds.{Worlds}
use Rattle.wit_graph_worlds.proofs.worlds.Worlds.push.Goals as goal

pub returns-in_err-alloc-2-clause-listed_grown : goal.returns-in_err-alloc-2-clause-listed_grown
returns-in_err-alloc-2-clause-listed_grown c = (c.args.listed ∷ [], c.in_ok-alloc.ensures.ok.1 ∙ ap (λ (w : Worlds). w.listed ++ c.args.listed ∷ []) c.self.view_is)

pub returns-clause-listed_grown : goal.returns-clause-listed_grown
returns-clause-listed_grown c = (c.args.listed ∷ [], c.in_ok-alloc.ensures.ok.1 ∙ ap (λ (w : Worlds). w.listed ++ c.args.listed ∷ []) c.self.view_is)

pub returns-clause-elaborated_grown : goal.returns-clause-elaborated_grown
returns-clause-elaborated_grown c = (c.args.elaborated ∷ [], c.in_ok-alloc-2.ensures.ok.1 ∙ ap (λ (w : Worlds). w.elaborated ++ c.args.elaborated ∷ []) c.self.view_is)
