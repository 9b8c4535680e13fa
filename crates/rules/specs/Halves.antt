-- A half in code, as a contract sees it.

-- what the rules keep of a half, and its oldest number as the direction stores it
pub record Half (Kept N : Type 0) : Type 0 where
  pub holds : Kept
  pub oldest : N
