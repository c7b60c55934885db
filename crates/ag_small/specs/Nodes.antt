-- The expression that a node of the program stands for.
use Rattle.ag_small.specs.Expressions.{Expression, Truth, Named, Group, Not, And, Or, Implies}
use Rattle.ag_small.specs.declared.package.Node.{Node}
use Rattle.ag_small.specs.declared.package.Node.TheVariants as node

abbrev pub expression_of : Node → Expression
expression_of (node.Truth holds) = Truth holds
expression_of (node.Named name) = Named name
expression_of (node.Group' p f) = Group (expression_of f)
expression_of (node.Not' p f) = Not (expression_of f)
expression_of (node.And' p f q g) = And (expression_of f) (expression_of g)
expression_of (node.Or' p f q g) = Or (expression_of f) (expression_of g)
expression_of (node.Implies' p f q g) = Implies (expression_of f) (expression_of g)
