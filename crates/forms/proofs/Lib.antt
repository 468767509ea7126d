mod Coefficients
