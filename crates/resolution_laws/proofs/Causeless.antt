-- A script that binds has no cause.
use Rattle.std.proofs.Common.{◌≡◌, ℕ, Bool, true, false, List, [], ◌∷◌, ◌++◌, length, refl, sym, ap, ◌∙◌, append-nil, append_assoc, Option, Some, None, Result, Ok, Err}
use Rattle.script_trees.specs.declared.script.Script.{Script}
use Rattle.script_trees.specs.declared.script.Statement.{Statement}
use Rattle.user_ops.specs.Told.{Operators}
use Rattle.placed_trees.specs.declared.statement.Statement as placed
use Rattle.name_resolution.specs.Resolved.{resolved_statement}
use Rattle.binding_causes.specs.declared.cause.BindCause.{BindCause}
use Rattle.binding_causes.specs.declared.cause.BindFault.{BindFault}
use Rattle.binding_causes.specs.Resolution.{Place, first_true, first_cause, fault_or, resolved_from, next, start, resolution}
use Rattle.resolution_laws.specs.Causeless.{resolved_all, IsCauseless, AreCauseless}
use Rattle.resolution_laws.specs.Laws.{Binds, GivesCauseless}

-- the first of some tests, and those after it, are false
first_false : (b : Bool) (c : BindCause) (more : List (Bool × BindCause)) → first_true ((b, c) ∷ more) ≡ None → (b ≡ false) × (first_true more ≡ None)
unfolding first_true
first_false true c more h = absurd (cc)
first_false false c more h = (refl, h)

is_causeless : (ops : Operators) (at : Place) (s : Statement) → first_cause ops at s ≡ None → IsCauseless ops at s
is_causeless ops at s h =
    let a = first_false _ _ _ h in
    let b = first_false _ _ _ a.1 in
    let c = first_false _ _ _ b.1 in
    let d = first_false _ _ _ c.1 in
    let e = first_false _ _ _ d.1 in
    let f = first_false _ _ _ e.1 in
    let g = first_false _ _ _ f.1 in
    let i = first_false _ _ _ g.1 in
    let j = first_false _ _ _ i.1 in
    let k = first_false _ _ _ j.1 in
    let l = first_false _ _ _ k.1 in
    let m = first_false _ _ _ l.1 in
    let n = first_false _ _ _ m.1 in
    let o = first_false _ _ _ n.1 in
    record {
      known = a.0;
      single = b.0;
      there = c.0;
      columns = d.0;
      clear = e.0;
      typed = f.0;
      taken = g.0;
      ordered = i.0;
      few_statements = j.0;
      few_columns = k.0;
      few_inputs = l.0;
      few_keys = m.0;
      few_shared = n.0;
      few_args = o.0;
    }

no_fault : (n : ℕ) (o : Option BindCause) (rest : Result (List placed.Statement) BindFault) (out : List placed.Statement) → fault_or n o rest ≡ Ok out → (o ≡ None) × (rest ≡ Ok out)
no_fault n (Some cause) rest out h = absurd (cc)
no_fault n None rest out h = (refl, h)

resolved_is : (ops : Operators) (rest : List Statement) (at : Place) (done out : List placed.Statement) → resolved_from ops at done rest ≡ Ok out
    → (out ≡ done ++ resolved_all ops at.before rest) × AreCauseless ops at rest
resolved_is ops [] at done out h = (let same : out ≡ done = cc in same ∙ sym (append-nil done), tt)
resolved_is ops (s ∷ rest) at done out h =
    let k = no_fault _ (first_cause ops at s) _ out h in
    let more = resolved_is ops rest (next ops at s) (done ++ resolved_statement ops at.before s ∷ []) out k.1 in
    (more.0 ∙ append_assoc done (resolved_statement ops at.before s ∷ []) (resolved_all ops (next ops at s).before rest), (is_causeless ops at s k.0, more.1))

pub causeless : GivesCauseless
causeless ops script statements h =
    let both = resolved_is ops script.statements (start script.statements) [] statements h in
    record { resolved = both.0; causeless = both.1 }
