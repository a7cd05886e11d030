use Rattle.std.proofs.Common.{◌≡◌, ◌∙◌, inr, refl}
use Rattle.csv.specs.Reading.{strip_bom}
use Rattle.row_codec.specs.Records.{config_of, records_of}
use Rattle.row_codec.proofs.Reading.{starts}
use Rattle.row_codec.proofs.records.open.Goals as goal

pub returns : goal.returns
unfolding records_of
returns c =
    let r = c.from_reader.ensures in
    let e = c.flexible.ensures in
    let f = c.has_headers.ensures in
    let g = c.delimiter.ensures in
    let config : c.from_reader.result.config ≡ config_of c.args.delimiter = rw (e, f, g, c.new.ensures.config) at r.config in
    record {
      between = record {
        trim = rw (e, f, g) at r.trim ∙ c.new.ensures.trim;
        ready = inr (inr (rw (e, f) at r.has_headers, r.headers));
        quiet = rw r.state refl;
        known = rw r.source refl;
      };
      left = starts c.from_reader.result (config_of c.args.delimiter) (strip_bom c.args.bytes.now) config r.state r.source;
    }
