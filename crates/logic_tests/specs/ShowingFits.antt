-- Operators that take no schemas owe no fitting rows.
use Rattle.std.proofs.Common.{ℕ, List}
use Rattle.scope_value.specs.declared.value.Value.{Value}
use Rattle.user_ops.specs.Appends.{GivesFitting, GroupGivesFitting, PairGivesFitting}
use Rattle.user_ops.specs.Lawful.{IsLawfulProcessor, IsLawfulReducer, IsLawfulCombiner}
use Rattle.logic_tests.specs.Showing.{row_shown, group_shown, side_shown}

pub row_shown-fits : (args : List (List ℕ)) (row : List Value) → GivesFitting row_shown args row
row_shown-fits args row = record { fit = λ input output taken fits. absurd (cc) }

pub group_shown-fits : (args : List (List ℕ)) (rows : List (List Value)) → GroupGivesFitting group_shown args rows
group_shown-fits args rows = record { fit = λ input output taken fits. absurd (cc) }

pub side_shown-fits : (args : List (List ℕ)) (left right : List (List Value)) → PairGivesFitting side_shown args left right
side_shown-fits args left right = record { fit = λ input other output taken fits fit_too. absurd (cc) }

pub row_shown-lawful : IsLawfulProcessor row_shown
row_shown-lawful = record { gives = row_shown-fits }

pub group_shown-lawful : IsLawfulReducer group_shown
group_shown-lawful = record { gives = group_shown-fits }

pub side_shown-lawful : IsLawfulCombiner side_shown
side_shown-lawful = record { gives = side_shown-fits }

pub ruleset showing_rules = (row_shown-fits, group_shown-fits, side_shown-fits)
