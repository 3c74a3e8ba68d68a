mod Edging
mod Leafing
mod Reporting
