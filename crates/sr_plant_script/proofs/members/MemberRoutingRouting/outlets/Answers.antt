use Rattle.sr_plant_script.proofs.members.MemberRoutingRouting.outlets.Goals as goal

pub returns-in-Danp : goal.returns-in-Danp
returns-in-Danp c now = rw c.in-Danp.is (c.outlets.ensures now)

pub returns-in-Danh : goal.returns-in-Danh
returns-in-Danh c now = rw c.in-Danh.is (c.outlets-in-Danh.ensures now)

pub returns-in-Prp : goal.returns-in-Prp
returns-in-Prp c now = rw c.in-Prp.is (c.outlets-in-Prp.ensures now)

pub returns-in-Hsr : goal.returns-in-Hsr
returns-in-Hsr c now = rw c.in-Hsr.is (c.outlets-in-Hsr.ensures now)
