-- The lexemes of a part of the terminals.
use Rattle.std.proofs.Common.{◌≡◌, ◌-◌, ◌≤◌, ℕ, List, length, map, take, drop, sym, ap, ◌∙◌}
use Rattle.std.proofs.lemmas.List.{drop-map, length-map, take-map, take_all, take_rest}
use Rattle.expression_syntax.specs.declared.terminal.Terminal.{Terminal}
use Rattle.expression_syntax.specs.Lexemes.{lexeme_of}

pub front_is : (n : ℕ) (ts : List Terminal) → map lexeme_of (take n ts) ≡ take n (map lexeme_of ts)
front_is n ts = sym (take-map lexeme_of n ts)

pub all_is : (n : ℕ) (ts : List Terminal) → length ts ≤ n → map lexeme_of ts ≡ take n (map lexeme_of ts)
all_is n ts h = sym (take_all n (map lexeme_of ts) (rw length-map h))

pub behind_is : (n : ℕ) (ts : List Terminal) → map lexeme_of (take (length ts - n) (drop n ts)) ≡ drop n (map lexeme_of ts)
behind_is n ts = ap (map lexeme_of) (take_rest ts n) ∙ sym (drop-map lexeme_of n ts)
