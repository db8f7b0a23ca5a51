-- What is shown of a live position: its operands, and the places of a stack, the deepest first.
use Rattle.std.specs.Prelude.{List}
use Rattle.stack_names.specs.declared.place.Place.{Place}

pub record Listed : Type 0 where
  pub operands : List Place
  pub stack : List Place
