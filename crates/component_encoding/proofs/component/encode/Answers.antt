use Rattle.component_encoding.proofs.component.encode.Goals as goal

pub returns-in-Ok-clause-right : goal.returns-in-Ok-clause-right
returns-in-Ok-clause-right c = λ is listed apart differ. record {
  definitions = c.in_ok-component.component;
  are = c.in-Ok.ensures.found (c.in_ok-component.ensures.placed apart differ);
  right = c.in_ok-component.ensures.right is listed;
}
