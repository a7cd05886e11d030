-- Expressions with the same bags: alike, turned, one after the other, and as children.
use Rattle.std.proofs.Common.{◌≡◌, ℕ, List, refl, sym, ap, ap₂, ◌∙◌, subst}
use Rattle.logical_trees.specs.declared.logic_op.LogicOp.{LogicOp}
use Rattle.logical_trees.specs.Tree.{Expression, one, two, one_columns, two_columns, columns_of}
use Rattle.logical_trees.specs.Meaning.{GivesOne, GivesTwo, SameBags}

pub same_itself : (t : Expression) → SameBags t t
same_itself t = record { columns = refl; there = λ ops from B h. h; back = λ ops from B h. h }

pub same_turned : (t u : Expression) → SameBags t u → SameBags u t
same_turned t u h = record { columns = sym h.columns; there = h.back; back = h.there }

pub same_then : (t u v : Expression) → SameBags t u → SameBags u v → SameBags t v
same_then t u v h k = record {
  columns = h.columns ∙ k.columns;
  there = λ ops from B s. k.there ops from B (h.there ops from B s);
  back = λ ops from B s. h.back ops from B (k.back ops from B s);
}

-- a child may be replaced
pub same_below : (op : LogicOp) (t u : Expression) → SameBags t u → SameBags (one op t) (one op u)
same_below op t u h = record {
  columns = ap (one_columns op) h.columns;
  there = λ ops from B s. (s.0, h.there ops from s.0 s.1, subst (λ (cols : List ℕ). GivesOne ops op cols s.0 B) h.columns s.2);
  back = λ ops from B s. (s.0, h.back ops from s.0 s.1, subst (λ (cols : List ℕ). GivesOne ops op cols s.0 B) (sym h.columns) s.2);
}

-- and so may both children
pub same_beside : (op : LogicOp) (t u v w : Expression) → SameBags t u → SameBags v w → SameBags (two op t v) (two op u w)
same_beside op t u v w h k = record {
  columns = ap₂ (two_columns op) h.columns k.columns;
  there = λ ops from C s. (
    s.0,
    s.1,
    h.there ops from s.0 s.2,
    k.there ops from s.1 s.3,
    subst (λ (left : List ℕ). GivesTwo ops op left (columns_of w) s.0 s.1 C) h.columns (subst (λ (right : List ℕ). GivesTwo ops op (columns_of t) right s.0 s.1 C) k.columns s.4),
  );
  back = λ ops from C s. (
    s.0,
    s.1,
    h.back ops from s.0 s.2,
    k.back ops from s.1 s.3,
    subst (λ (left : List ℕ). GivesTwo ops op left (columns_of v) s.0 s.1 C) (sym h.columns)
        (subst (λ (right : List ℕ). GivesTwo ops op (columns_of u) right s.0 s.1 C) (sym k.columns) s.4),
  );
}
