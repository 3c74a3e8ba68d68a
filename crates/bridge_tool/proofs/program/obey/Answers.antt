use Rattle.bridge_tool.proofs.program.obey.Goals as goal

pub returns-in-Check : goal.returns-in-Check
returns-in-Check g c = rw c.in-Check.is c.check.ensures

pub returns-in-Explain : goal.returns-in-Explain
returns-in-Explain g c = rw c.in-Explain.is c.explain_read.ensures

pub returns-in-Links : goal.returns-in-Links
returns-in-Links g c = rw c.in-Links.is c.links.ensures

pub returns-in-Generate : goal.returns-in-Generate
returns-in-Generate g c = rw c.in-Generate.is c.generate.ensures
