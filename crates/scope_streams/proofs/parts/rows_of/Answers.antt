use Rattle.std.proofs.Common.{IfOk, List, ℕ, subst}
use Rattle.row_codec.specs.Rows.{Answers, rows_from}
use Rattle.row_codec.specs.Records.{records_of}
use Rattle.scope_streams.proofs.parts.rows_of.Goals as goal

-- the object in the box is the one that is lent
pub returns : goal.returns
returns g c =
    subst (λ op. IfOk c.read_part.result (λ r. Answers (λ v. v.items) (λ f. f.at) r
    (rows_from (((goal.Extractor-dyn g op).told_extractor op.1).extracts c.args.scan.now.args c.args.scan.now.schema) 1
    (records_of (((goal.Extractor-dyn g op).told_extractor op.1).delimits c.args.scan.now.args) c.args.bytes.now))))
    c.deref_box-1.ensures.1
    (subst (λ (args : List (List ℕ)). IfOk c.read_part.result (λ r. Answers (λ v. v.items) (λ f. f.at) r
    (rows_from (((goal.Extractor-dyn g c.deref_box-1.result.now).told_extractor c.deref_box-1.result.now.1).extracts args c.args.scan.now.schema) 1
    (records_of (((goal.Extractor-dyn g c.deref_box-1.result.now).told_extractor c.deref_box-1.result.now.1).delimits args) c.args.bytes.now))))
    c.as_slice.ensures c.read_part.ensures.exact)
