use Rattle.lis_open.proofs.files.take_file.Goals as goal

pub returns-in-Some-Used : goal.returns-in-Some-Used
returns-in-Some-Used g c =
    let m = c.take_record.ensures in
    record { disk = m.disk; taken = rw (c.in-Some-Used.is, c.in-Some-Used.field-0-is) m.taken; refused = rw (c.in-Some-Used.is, c.in-Some-Used.field-0-is) m.refused }
