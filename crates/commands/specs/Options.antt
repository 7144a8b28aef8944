-- The options that take the next word. Source: own.
pub data Valued : Type 0 where
  Assume : Valued
  Steps : Valued
  Device : Valued
  Trials : Valued
