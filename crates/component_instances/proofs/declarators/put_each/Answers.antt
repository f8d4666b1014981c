use Rattle.std.proofs.Common.{arith, subst}
use Rattle.std.proofs.lemmas.Grind.{common_steps}
use Rattle.std.proofs.lemmas.List.Elements.{All-more}
use Rattle.binary_grammar.specs.Syntax.{IsTyped}
use Rattle.component_instances.specs.Declarators.{declarator, declarator_value}
use Rattle.component_instances.proofs.declarators.put_each.Goals as goal

pub loop-item-preserved : goal.loop-item-preserved
loop-item-preserved c =
    record {
      bytes = grind (arith, common_steps);
      each = All-more (λ x. IsTyped declarator (declarator_value x)) c.args.items.now c.loop-item.item-index c.item-item.result c.loop-item-test.true c.loop-item.invariant.each (subst (λ x. IsTyped declarator (declarator_value x)) c.item-item.is c.in_ok-put.ensures.typed);
    }
