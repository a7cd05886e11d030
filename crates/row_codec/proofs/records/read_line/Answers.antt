use Rattle.row_codec.proofs.Reading.{reader_end, reader_more}
use Rattle.row_codec.proofs.records.read_line.Goals as goal

pub returns : goal.returns
returns c =
    let read = c.in-Ok.ensures.reads c.requires.trim c.requires.ready in
    let first = c.in-Ok.ensures.ready c.requires.trim in
    record {
      between = λ e. (reader_more c.args.reader.now c.read_byte_record.new.self _ c.requires first (rw e at read)).0;
      more = λ e. (reader_more c.args.reader.now c.read_byte_record.new.self _ c.requires first (rw e at read)).1;
      done = λ e. reader_end c.args.reader.now c.read_byte_record.new.self _ c.requires (rw e at read);
    }
